-- The fields of a written header, each read back where it stands.
use Prim.Native.Nat.{ℕ, ◌+◌, ◌%◌, ◌^◌, ◌≤◌, ◌<◌}
use mathlib.Core.Path.{◌≡◌, refl, sym, ◌∙◌}
use mathlib.Core.List.{List, [], ◌∷◌, ◌++◌, append_assoc}
use native.Mathlib.Omega.{arith}
use lib.ListN.{length, length-append}
use borrow.Author.Tests.{le-leb}
use Rattle.coding.specs.Words.{got, and_then}
use Rattle.coding.specs.Bytes.{bytes_be}
use Rattle.coding.specs.Reading.{fixed_at, take_at}
use Rattle.coding.specs.Varint.{var_at, var_bytes, var_size}
use Rattle.coding.proofs.Laws.{length_bytes_be, length_var}
use Rattle.coding.proofs.Back.{fixed_back, take_back, var_back}
use Rattle.shared.specs.Cid.{cid_of, cid_on, long_cid_at, cid_bytes, long_bytes}
use Rattle.shared.specs.declared.cid.ConnectionId.{ConnectionId}
use Rattle.shared.proofs.Laws.{length_long}
use Rattle.shared.proofs.Back.{behind, long_back, bytes_back}
use Rattle.packet.specs.Header.{Header, Outcome, initial_at, length_at, long_at, body_at}
use Rattle.packet.specs.Header as read
use Rattle.packet.specs.TypeBits.{PacketType}

-- a field of bytes that is read as n, in m of them
abbrev pub ReadsAs : List ℕ → ℕ → ℕ → Type 0
ReadsAs field n m = (p q : List ℕ) → var_at (p ++ (field ++ q)) (length p) ≡ got n (length p + m)

-- ---- each field, by what stands before it

module _ (s p q : List ℕ) (at : ℕ) (ea : at ≡ length p) where
  pub var_here : (x : ℕ) → x < 2 ^ 62 → s ≡ p ++ (var_bytes x ++ q) → var_at s at ≡ got x (at + var_size x)
  var_here x h es = rw (es, ea) (var_back p q x h)

  pub field_here : (field : List ℕ) (n m : ℕ) → ReadsAs field n m → s ≡ p ++ (field ++ q) → var_at s at ≡ got n (at + m)
  field_here field n m r es = rw (es, ea) (r p q)

  pub take_here : (bs : List ℕ) → s ≡ p ++ (bs ++ q) → take_at (length bs) s at ≡ got (record { start = at; len = length bs }) (at + length bs)
  take_here bs es = rw (es, ea) (take_back p bs q)

  pub fixed_here : (n x : ℕ) → s ≡ p ++ (bytes_be n x ++ q) → fixed_at n s at ≡ got (x % 256 ^ n) (at + n)
  fixed_here n x es = rw (es, ea) (fixed_back p q n x)

  module _ (c : ConnectionId) (short : c.len ≤ 20) (all : c.len ≤ length c.bytes) (es : s ≡ p ++ (long_bytes c ++ q)) where
    pub cid_here : long_cid_at s at ≡ got (behind at c) (at + 1 + c.len)
    cid_here = rw (es, ea) (long_back p q c short all)

    pub bytes_here : cid_on s (behind at c) ≡ cid_of (cid_bytes c)
    unfolding cid_on
    bytes_here = rw (es, ea, le-leb _ _ short, bytes_back p q c short all)

-- ---- what stands past the connection ids

module _ (made : Header → ℕ → Outcome) (s p q : List ℕ) (at : ℕ) (ea : at ≡ length p) (field : List ℕ) (n m : ℕ) (r : ReadsAs field n m) where
  pub initial_back : (token : List ℕ) → length token < 2 ^ 62 → s ≡ p ++ (var_bytes (length token) ++ (token ++ (field ++ q)))
      → initial_at made s at
      ≡ made (read.initial (record { start = at + var_size (length token); len = length token }) n) (at + var_size (length token) + length token + m)
  unfolding initial_at and_then
  initial_back token h es =
      let t : List ℕ = var_bytes (length token) in
      let e₁ : s ≡ (p ++ t) ++ (token ++ (field ++ q)) = es ∙ sym (append_assoc p t (token ++ (field ++ q))) in
      let e₂ : s ≡ ((p ++ t) ++ token) ++ (field ++ q) = e₁ ∙ sym (append_assoc (p ++ t) token (field ++ q)) in
      let l₁ : at + var_size (length token) ≡ length (p ++ t) = rw (length-append p t, length_var (length token), ea) in
      let l₂ : at + var_size (length token) + length token ≡ length ((p ++ t) ++ token) = rw (length-append (p ++ t) token, ← l₁) in
      rw (var_here s p (token ++ (field ++ q)) at ea (length token) h es, take_here s (p ++ t) (field ++ q) _ l₁ token e₁, field_here s ((p ++ t) ++ token) q _ l₂ field n m r e₂)

  pub length_back : (kind : ℕ → Header) → s ≡ p ++ (field ++ q) → length_at kind made s at ≡ made (kind n) (at + m)
  unfolding length_at and_then
  length_back kind es = rw (field_here s p q at ea field n m r es)

-- ---- the version and the connection ids

module _ (dst src : ConnectionId) (to : dst.len ≤ 20) (from : src.len ≤ 20) (allTo : dst.len ≤ length dst.bytes) (all_from : src.len ≤ length src.bytes) where
  pub names_back : (types : ℕ → ℕ → PacketType) (steer rest : ℕ) (s versions : List ℕ) (b version : ℕ) (q : List ℕ) → version < 2 ^ 32
      → s ≡ b ∷ (bytes_be 4 version ++ (long_bytes dst ++ (long_bytes src ++ q)))
      → long_at types steer rest s versions
      ≡ body_at types steer rest s versions version (cid_of (cid_bytes dst)) (cid_of (cid_bytes src)) (5 + 1 + dst.len + 1 + src.len)
  unfolding long_at and_then
  names_back types steer rest s versions b version q h es =
      let p : List ℕ = b ∷ bytes_be 4 version in
      let e : s ≡ (p ++ long_bytes dst) ++ (long_bytes src ++ q) = es ∙ sym (append_assoc p (long_bytes dst) (long_bytes src ++ q)) in
      let l : 5 ≡ length p = omega (arith, length_bytes_be 4 version) in
      let k : 5 + 1 + dst.len ≡ length (p ++ long_bytes dst) = rw (length-append p (long_bytes dst), length_long dst allTo, ← l) (omega arith) in
      let v : version % 256 ^ 4 ≡ version = omega arith in
      let f : fixed_at 4 s 1 ≡ got version 5 = fixed_here s (b ∷ []) (long_bytes dst ++ (long_bytes src ++ q)) 1 refl 4 version es ∙ rw v in
      rw (
        f,
        cid_here s p (long_bytes src ++ q) 5 l dst to allTo es,
        cid_here s (p ++ long_bytes dst) q _ k src from all_from e,
        bytes_here s p (long_bytes src ++ q) 5 l dst to allTo es,
        bytes_here s (p ++ long_bytes dst) q _ k src from all_from e,
      )
