-- What is appended for instructions that note nothing, and for those that lead elsewhere.
use Rattle.std.proofs.Common.{◌≡◌, ℕ, ◌+◌, pos, List, [], ◌∷◌, ◌++◌, length, Option, Some, None}
use Rattle.std.proofs.Common.{refl, sym, ap, ◌∙◌, arith}
use Rattle.std.proofs.lemmas.List.{append-nil}
use Rattle.rv_instr.specs.declared.instr.Instr.{Instr}
use Rattle.rv_instr.specs.declared.instr.Instr.TheVariants.{Cjal}
use Rattle.tac_ir.specs.declared.code.LibOp.{LibOp}
use Rattle.tac_ir.specs.declared.code.LibOp.TheVariants as lib
use Rattle.tac_ir.specs.declared.code.TacInstr.TheVariants as instr
use Rattle.select_words.specs.Selecting.{Selecting}
use Rattle.select_words.specs.Returning.{ReturnWords}
use Rattle.rv_select.specs.Choosing.{ServiceWords}
use Rattle.rv_emit.specs.Growing.{Size, Puts, marking, jumping}
use Rattle.rv_select.specs.Noting.{Selects}
use Rattle.rv_select.specs.Selected.{LibraryWords}

-- with the arguments that a function of the library takes, its words are those that were appended
library_words : (s : Selecting) (op : LibOp) (to : Option ℕ) (args : List ℕ) (words : List Instr)
    → ServiceWords s op to args words → LibraryWords s op to args words
library_words s lib.PutChar to [] words w = tt
library_words s lib.PutChar to (a ∷ []) words w = w
library_words s lib.PutChar to (a ∷ b ∷ more) words w = tt
library_words s lib.GetChar to [] words w = w
library_words s lib.GetChar to (a ∷ more) words w = tt
library_words s lib.Exit (Some t) args words w = tt
library_words s lib.Exit None [] words w = tt
library_words s lib.Exit None (a ∷ []) words w = w
library_words s lib.Exit None (a ∷ b ∷ more) words w = tt
library_words s lib.Malloc to [] words w = tt
library_words s lib.Malloc to (a ∷ []) words w = w
library_words s lib.Malloc to (a ∷ b ∷ more) words w = tt

-- words of which nothing is noted
pub passing : (Words : List Instr → Type 0) (old new : Size) → Puts Words old new → new.links ≡ old.links
    → Puts (λ ws. (new.links ≡ old.links) × Words ws) old new
passing Words old new p l = record { added = p.added; is = p.is; are = (l, p.are) }

module _ (s : Selecting) (old new : Size) where
  pub label_selected : (l : ℕ) → new.text ≡ old.text → new.links ≡ marking old.links (length old.text) l
      → Selects s (instr.Label l) old new
  label_selected l e m = record { added = []; is = e ∙ sym (append-nil old.text); are = (m, refl) }

  pub jump_selected : (l : ℕ) → new.text ≡ old.text ++ Cjal 0 (pos 0) ∷ []
      → new.links ≡ jumping old.links (length old.text) l → Selects s (instr.Jump l) old new
  jump_selected l e n =
      let here : length old.text ≡ length old.text + 0 = omega arith in
      record {
        added = Cjal 0 (pos 0) ∷ [];
        is = e;
        are = record { offset = pos 0; leads = (refl, n ∙ ap (λ x. jumping old.links x l) here); are = refl };
      }

  pub return_selected : (v : Option ℕ) → Puts (ReturnWords s v) old new → new.links ≡ old.links
      → Selects s (instr.Return v) old new
  return_selected v p l = passing (ReturnWords s v) old new p l

  pub service_selected : (op : LibOp) (to : Option ℕ) (args : List ℕ) → Puts (ServiceWords s op to args) old new
      → new.links ≡ old.links → Selects s (instr.Lib op to args) old new
  service_selected op to args p l =
      record { added = p.added; is = p.is; are = (l, library_words s op to args p.added p.are) }
