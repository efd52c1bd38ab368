use Rattle.std.proofs.Common.{refl, rules, ◌∙◌}
use Rattle.number.specs.Ends.{send_by}
use Rattle.spaces.proofs.Lifts.{calls_lift, sent_says, sent_is, sent_all_is}
use Rattle.spaces.proofs.Spaces.send.Goals as goal

pub returns : goal.returns
returns c =
    sent_all_is _ _
    ∙ calls_lift _ send_by c.args.self.now sent_says _ _ _ refl (λ a. (_, refl)) (λ why. (_, refl)) (λ s t p. sent_is _ t ∙ search rules) c.call.ensures
