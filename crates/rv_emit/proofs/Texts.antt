-- Lines stay in order as words and lines are added.
use Rattle.std.proofs.Common.{◌≡◌, ℕ, ◌+◌, ◌*◌, ◌<◌, ◌≤◌, ◌&&◌, Bool, true, false, List, [], ◌∷◌, ◌++◌}
use Rattle.std.proofs.Common.{refl, sym, subst, arith}
use Rattle.std.specs.Prelude.{nat_lt, nat_le}
use Rattle.std.proofs.lemmas.Bool.Decides.{nat_tests}
use Rattle.elf_file.specs.declared.image.Line.{Line}
use Rattle.elf_file.specs.Image.{lines_ok}

pub both_from : (a b : Bool) → a && b ≡ true → (a ≡ true) × (b ≡ true)
both_from true b h = (refl, h)
both_from false b h = absurd (cc)

pub both_of : (a b : Bool) → a ≡ true → b ≡ true → a && b ≡ true
both_of a b p q = subst (λ v. v && b ≡ true) (sym p) q

pub lines_more : (least a b : ℕ) (ls : List Line) → a ≤ b → lines_ok least a ls ≡ true → lines_ok least b ls ≡ true
lines_more least a b [] h o = refl
lines_more least a b (l ∷ ls) h o =
    let p = both_from (nat_le least l.at && nat_lt l.at a && nat_lt l.kind 2) (lines_ok (l.at + 1) a ls) o in
    let q = both_from (nat_le least l.at && nat_lt l.at a) (nat_lt l.kind 2) p.0 in
    let r = both_from (nat_le least l.at) (nat_lt l.at a) q.0 in
    let below : nat_lt l.at b ≡ true = grind (arith, nat_tests, r.1) in
    both_of _ _ (both_of _ _ (both_of _ _ r.0 below) q.1) (lines_more (l.at + 1) a b ls h p.1)

pub lines_add : (least n : ℕ) (ls : List Line) (l : Line) → l.at ≡ 4 * n → l.kind < 2 → least ≤ 4 * n
    → lines_ok least (4 * n) ls ≡ true → lines_ok least (4 * (n + 1)) (ls ++ l ∷ []) ≡ true
lines_add least n [] l e k h o =
    let a : nat_le least l.at ≡ true = grind (arith, nat_tests) in
    let b : nat_lt l.at (4 * (n + 1)) ≡ true = grind (arith, nat_tests) in
    let c : nat_lt l.kind 2 ≡ true = grind (arith, nat_tests) in
    both_of _ _ (both_of _ _ (both_of _ _ a b) c) refl
lines_add least n (x ∷ xs) l e k h o =
    let p = both_from (nat_le least x.at && nat_lt x.at (4 * n) && nat_lt x.kind 2)
    (lines_ok (x.at + 1) (4 * n) xs) o in
    let q = both_from (nat_le least x.at && nat_lt x.at (4 * n)) (nat_lt x.kind 2) p.0 in
    let r = both_from (nat_le least x.at) (nat_lt x.at (4 * n)) q.0 in
    let next : x.at + 1 ≤ 4 * n = grind (arith, nat_tests, r.1) in
    let below : nat_lt x.at (4 * (n + 1)) ≡ true = grind (arith, nat_tests, next) in
    both_of _ _ (both_of _ _ (both_of _ _ r.0 below) q.1) (lines_add (x.at + 1) n xs l e k next p.1)
