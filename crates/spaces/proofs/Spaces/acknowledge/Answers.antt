use Rattle.std.proofs.Common.{refl, rules, ◌∙◌}
use Rattle.number.specs.Ends.{acknowledge_by}
use Rattle.spaces.proofs.Lifts.{calls_lift, kept_says, kept_is, kept_all_is}
use Rattle.spaces.proofs.Spaces.acknowledge.Goals as goal

pub returns : goal.returns
returns c =
    kept_all_is _ _
    ∙ calls_lift _ (λ e. acknowledge_by e c.args.n.0) c.args.self.now kept_says _ _ _ refl (λ a. (_, refl)) (λ why. (_, refl)) (λ s t p. kept_is _ t ∙ search rules) c.call.ensures
