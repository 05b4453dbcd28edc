-- Moves of which none reads another's target.
use Rattle.std.proofs.Common.{◌≡◌, ◌≢◌, ℕ, zero, suc, ◌<◌, false, List, [], ◌∷◌, ◌++◌, length, get_or, map, refl}
use Rattle.std.proofs.Common.{sym}
use Rattle.std.proofs.Common.{ap, ◌∙◌, subst, arith, append_assoc}
use Rattle.std.specs.Prelude.{◌==◌}
use Rattle.std.specs.List.{Contains, list_any, remove}
use Rattle.std.proofs.lemmas.Bool.{ne_eqb}
use Rattle.std.proofs.lemmas.List.{append-nil, get_or_default}
use Rattle.std.proofs.lemmas.List.Folds.{list_any_none}
use Rattle.rv_instr.specs.declared.instr.Instr.{Instr}
use Rattle.rv_idioms.specs.declared.moves.Move.{Move}
use Rattle.rv_emit.specs.Growing.{Size, Puts}
use Rattle.rv_idioms.specs.Moves.{AreFree, moving}

-- no move reads a register
unread : (moves : List Move) (r : ℕ) → ((n : Move) → Contains moves n → r ≢ n.from)
    → list_any (λ n. n.from == r) moves ≡ false
unread moves r none = list_any_none (λ n. n.from == r) moves
    (λ k d lt.
    let n = get_or moves k d in
    ne_eqb n.from r (λ e. none n (k, lt, get_or_default moves k n d lt) (sym e)))

-- the target of one is not read
pub free_unread : (moves : List Move) (m : Move) → AreFree moves → Contains moves m
    → list_any (λ n. n.from == m.to) moves ≡ false
free_unread moves m free among = unread moves m.to (λ n is. free m n among is)

-- the first is done
module _ (moves rest : List Move) (m : Move) (e : moves ≡ m ∷ rest) where
  first : Contains moves m
  first = subst (λ x. Contains x m) (sym e) (0, omega arith, refl)

  further : (n : Move) → Contains rest n → Contains moves n
  further n is = subst (λ x. Contains x n) (sym e) (suc is.0, (let lt = is.1 in omega (arith, lt)), is.2)

  pub rest_free : AreFree moves → AreFree rest
  rest_free free x y a b = free x y (further x a) (further y b)

  pub rest_unread : AreFree moves → list_any (λ n. n.from == m.to) rest ≡ false
  rest_unread free = unread rest m.to (λ n is. free m n first (further n is))

  pub moved_on : (old mid new : List Instr) → mid ++ map moving moves ≡ old → new ≡ mid ++ moving m ∷ []
      → new ++ map moving rest ≡ old
  moved_on old mid new was is =
      ap (λ x. x ++ map moving rest) is ∙ append_assoc mid (moving m ∷ []) (map moving rest)
      ∙ ap (λ x. mid ++ map moving x) (sym e) ∙ was

-- what is taken out is the first
pub first_out : (moves : List Move) (k : ℕ) (m : Move) → k ≡ 0 → k < length moves → m ≡ get_or moves k m
    → moves ≡ m ∷ remove moves k
first_out [] k m e lt is = absurd (omega (arith, lt))
first_out (x ∷ xs) zero m e lt is = ap (λ y. y ∷ xs) (sym is)
first_out (x ∷ xs) (suc k) m e lt is = absurd (omega (arith, e))

pub no_items : (moves : List Move) → length moves ≡ 0 → moves ≡ []
no_items [] e = refl
no_items (x ∷ xs) e = absurd (omega (arith, e))

pub all_moved : (text all : List Instr) (moves : List Move) → moves ≡ [] → text ++ map moving moves ≡ all → text ≡ all
all_moved text all moves e is = sym (append-nil text) ∙ ap (λ x. text ++ map moving x) (sym e) ∙ is

-- words are appended
pub grown_by : (old mid new : Size) (ws : List Instr) → Puts (λ ws. Unit {0}) old mid → new.text ≡ mid.text ++ ws
    → Puts (λ ws. Unit {0}) old new
grown_by old mid new ws p e = record {
  added = p.added ++ ws;
  is = e ∙ ap (λ x. x ++ ws) p.is ∙ append_assoc old.text p.added ws;
  are = tt;
}
