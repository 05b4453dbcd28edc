-- The tree that reading a file gives stands for its syntax in the file's bytes.
use Rattle.std.proofs.Common.{◌≡◌, ℕ, List, Some, refl, sym, subst}
use Rattle.std.specs.Prelude.{slice_get}
use Rattle.ck_base.specs.Tokens.{Lexeme}
use Rattle.ck_base.specs.Lexes.{IsAccepted, IsTokenOf}
use Rattle.c_tree.specs.declared.syntax.Tree.{Tree}
use Rattle.c_tree.specs.Syntax.{Syn, Syns, node, nil, more, StandsAt}
use Rattle.c_tree.specs.Parses.{DerivesFile}
use Rattle.c_tree.specs.File.{IsCut}
use Rattle.c_tree.specs.Typing.{AreBytes, bytes_at, IsSpelled, AreSpelled, Reads}
use Rattle.typing_laws.proofs.Accepted.{token_of}
use Rattle.c_elab.proofs.Written.{IsFrom, AreFrom, file_read, all_known}

module _ (bytes : List ℕ) where
  abbrev Stands : Lexeme → Type 0
  Stands t = t.text ≡ bytes_at bytes t

  mutual
    unfolding IsSpelled AreSpelled

    spelled : (x : Syn) → IsFrom Stands x → IsSpelled bytes x
    spelled (node k t xs) h = (h.0.1, all_spelled xs h.1)

    all_spelled : (xs : Syns) → AreFrom Stands xs → AreSpelled bytes xs
    all_spelled nil h = tt
    all_spelled (more x xs) h = (spelled x h.0, all_spelled xs h.1)

pub reads_of : (bytes : List ℕ) (tree : Tree) (tokens : List Lexeme) (x : Syn) → AreBytes bytes → IsCut bytes tokens →
    DerivesFile tokens x → StandsAt tree.nodes tree.root x → Reads tree bytes x
reads_of bytes tree tokens x b c d s =
    let is : (j : ℕ) (t : Lexeme) → slice_get tokens j ≡ Some t → IsTokenOf bytes t =
    token_of bytes 0 tokens c.lexes.0 c.lexes.1 in
    let accepted : (j : ℕ) (t : Lexeme) → slice_get tokens j ≡ Some t → IsAccepted t.kind t.text = λ j t e.
    let o = is j t e in subst (IsAccepted t.kind) (sym o.text) o.begins.accepted in
    record {
      small = b;
      stands = s;
      spelled = spelled bytes x (file_read (Stands bytes) d
          (all_known (Stands bytes) tokens (λ j t e. (accepted j t e, (is j t e).text))) refl);
      tokens = tokens;
      derives = d;
      accepted = accepted;
    }
