-- Labels stand once, so what stands behind one is the same from any place before it.
use Rattle.std.proofs.Common.{◌≡◌, ℕ, ◌+◌, ◌*◌, ◌%◌, ◌<◌, ◌^◌, ℤ, pos, ◌+ℤ◌, Bool, true, false, List, [], ◌∷◌, ◌++◌}
use Rattle.std.proofs.Common.{refl, sym, ap, ◌∙◌, subst, if◌then◌else◌}
use Rattle.std.specs.Prelude.{◌||◌, not}
use Rattle.std.proofs.lemmas.Bool.{and_parts, eqb-true}
use Rattle.std.proofs.Math.IntN.{+ℤ_assoc}
use Rattle.ck_int.specs.Kinds.{kept_of}
use Rattle.ck_int.proofs.WordLaws.{kept_of-add, kept_of-pos}
use Rattle.cheri_c_sem.specs.Compatible.{same_bool}
use Rattle.tac_ir.specs.Meaning.{is_label}
use Rattle.tac_ir.specs.Temps.{behind}
use Rattle.tac_ir.specs.WellFormed.{has_label, label_is_new, labels_differ}
use Rattle.tac_ir.specs.declared.code.TacInstr.{TacInstr}
use Rattle.tac_ir.specs.declared.code.TacInstr.TheVariants as instr

or_later : (a b : Bool) → b ≡ true → (a || b) ≡ true
or_later true b h = refl
or_later false b h = h

has_later : (l : ℕ) (before rest : List TacInstr) → has_label rest l ≡ true → has_label (before ++ rest) l ≡ true
has_later l [] rest h = h
has_later l (x ∷ xs) rest h = or_later (is_label x l) _ (has_later l xs rest h)

not_both : (v : Bool) → not v ≡ true → v ≡ true → ⊥
not_both true h k = cc
not_both false h k = cc

stands_once : (l : ℕ) (x : TacInstr) (ys : List TacInstr) → is_label x l ≡ true → label_is_new x ys ≡ true
    → has_label ys l ≡ true → ⊥
stands_once l (instr.Label k) ys e new h =
    not_both (has_label ys k) new (subst (λ z. has_label ys z ≡ true) (sym (eqb-true k l e)) h)
stands_once l x ys e new h = cc

pub skips : (l : ℕ) (before rest : List TacInstr) → labels_differ (before ++ rest) ≡ true → has_label rest l ≡ true
    → behind l (before ++ rest) ≡ behind l rest
skips l [] rest d h = refl
skips l (x ∷ xs) rest d h =
    let q = and_parts (label_is_new x (xs ++ rest)) (labels_differ (xs ++ rest)) d in
    by (is_label x l) refl q.0 (skips l xs rest q.1 h)
  where
    by : (v : Bool) → is_label x l ≡ v → label_is_new x (xs ++ rest) ≡ true → behind l (xs ++ rest) ≡ behind l rest
        → (if v then xs ++ rest else behind l (xs ++ rest)) ≡ behind l rest
    by true e new k = absurd (stands_once l x (xs ++ rest) e new (has_later l xs rest h))
    by false e new k = k

-- a jump that no Turn precedes leads ahead
pub is_ahead : (v : Bool) → same_bool false (not v) ≡ true → v ≡ true
is_ahead true h = refl
is_ahead false h = cc

-- so many bytes, from where a text begins
pub hops : (text at to : ℕ) (z : ℤ) → text + 4 * at < 2 ^ 64 → text + 4 * to < 2 ^ 64
    → pos (4 * to) ≡ pos (4 * at) +ℤ z → (text + 4 * at + kept_of z) % 2 ^ 64 ≡ text + 4 * to
hops text at to z low high h =
    let e : pos (text + 4 * to) ≡ pos (text + 4 * at) +ℤ z =
    ap (λ y. pos text +ℤ y) h ∙ sym (+ℤ_assoc (pos text) (pos (4 * at)) z) in
    ap (λ n. (n + kept_of z) % 2 ^ 64) (sym (kept_of-pos (text + 4 * at) low))
    ∙ sym (kept_of-add (pos (text + 4 * at)) z) ∙ ap kept_of (sym e) ∙ kept_of-pos (text + 4 * to) high
