-- A file without markers has the positions of its bytes.
use Rattle.std.proofs.Common.{◌≡◌, ℕ, zero, suc, ◌+◌, ◌-◌, Bool, true, false, List, [], ◌∷◌, take, refl, arith}
use Rattle.std.specs.Prelude.{None, fold, if◌then◌else◌}
use Rattle.std.specs.List.{All, slice_split}
use Rattle.std.proofs.lemmas.List.Elements.{All-nil, All-cons, All-head, All-tail}
use Rattle.ck_base.specs.Lexes.{is_line_feed}
use Rattle.ck_base.specs.declared.positions.Pos.{Pos}
use Rattle.line_marks.specs.Comments.{leaves_open}
use Rattle.line_marks.specs.Marks.{Known, first, passed, directed, directive_of, behind, place_by, marked}
use Rattle.line_marks.specs.Plain.{LacksDirectives}

-- no marker was passed
record IsPlain (k : Known) : Type 0 where
  from : k.from ≡ 0
  number : k.number ≡ 0
  name : k.name ≡ []

stays : (k : Known) (line : List ℕ) (was : Bool) → directive_of line ≡ None → IsPlain k →
    IsPlain (if was then passed k (leaves_open true line) else directed k line (directive_of line))
stays k line true none plain = record { from = plain.from; number = plain.number; name = plain.name }
stays k line false none plain = rw none (record { from = plain.from; number = plain.number; name = plain.name })

all_stay : (k : Known) (n : ℕ) (lines : List (List ℕ)) → All (λ line. directive_of line ≡ None) lines → IsPlain k →
    IsPlain (fold behind k (take n lines))
all_stay k zero lines none plain = plain
all_stay k (suc n) [] none plain = plain
all_stay k (suc n) (line ∷ lines) none plain =
    all_stay (behind k line) n lines (All-tail (λ line. directive_of line ≡ None) line lines none)
    (stays k line k.commented (All-head (λ line. directive_of line ≡ None) line lines none) plain)

placed : (k : Known) (pos : Pos) → IsPlain k → place_by k pos ≡ record { name = []; line = pos.line; col = pos.col }
placed k pos plain =
    let whole : k.number + (pos.line - k.from) ≡ pos.line = omega (arith, plain.from, plain.number) in
    rw (plain.name, whole) refl

pub unmarked : (file : List ℕ) (pos : Pos) → LacksDirectives file →
    marked file pos ≡ record { name = []; line = pos.line; col = pos.col }
unmarked file pos none =
    placed _ pos (all_stay first (pos.line - 1) (slice_split is_line_feed file) none
    (record { from = refl; number = refl; name = refl }))

-- as the empty file
pub nowhere_marked : (pos : Pos) → marked [] pos ≡ record { name = []; line = pos.line; col = pos.col }
nowhere_marked pos =
    unmarked [] pos (All-cons (λ line. directive_of line ≡ None) [] [] refl (All-nil (λ line. directive_of line ≡ None)))
