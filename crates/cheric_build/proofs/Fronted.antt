-- What the reading of a file and the elaboration of its tree give together.
use Rattle.std.proofs.Common.{ℕ, ◌≤◌, List, length, Result, Ok, Err}
use Rattle.std.specs.Prelude.{IfOk, IfErr}
use Rattle.ck_base.specs.declared.positions.Pos.{Pos}
use Rattle.ck_base.specs.declared.refusal.Refusal.{Refusal}
use Rattle.ck_base.specs.declared.refusal.Refusal.TheVariants.{Code, NoMemory}
use Rattle.c_tree.specs.declared.syntax.Tree.{Tree}
use Rattle.c_tree.specs.declared.typed.Typed.{Typed}
use Rattle.c_tree.specs.File.{file_limit, IsRead}
use Rattle.accepted_files.specs.Accepted.{Refused}
use Rattle.accepted_files.specs.Accepted as files
use Rattle.c_tree.specs.Typing.{AreBytes, Reads, Sound}
use Rattle.c_parse.specs.Parsed.{IsTreeOf, IsRefused, OnCode}
use Rattle.c_parse.specs.Parsed as parsed
use Rattle.c_elab.specs.Elaborated.{Elaborated}
use Rattle.c_elab.proofs.Reading.{reads_of}
use Rattle.cheric_build.specs.Front.{IsTyped, IsBeforeLimits, IsBroken}

-- ---- the parser's refusals

broken : (file : List ℕ) (code : ℕ) (place : Pos) → length file ≤ file_limit → IsRefused file code place →
    (rule : Refused file code place) × IsBeforeLimits rule
broken file code place short (parsed.lexical r) = (files.lexical short r, tt)
broken file code place short (parsed.brackets ts l e) = (files.brackets ts short l e, tt)
broken file code place short (parsed.no_tree ts c h w) = (files.no_tree ts c h w, tt)

pub is_broken : (file : List ℕ) (e : Refusal) → length file ≤ file_limit → OnCode e (IsRefused file) → IsBroken file e
is_broken file (Code code place) short r = broken file code place short r
is_broken file NoMemory short r = short

-- ---- the tree of a file

module _ (file : List ℕ) (tree : Tree) (t : IsTreeOf file tree) where
  is_read : IsRead file t.tokens t.parses.syntax
  is_read = record { cut = t.cut; derives = t.parses.derives; low = t.low }

  -- it stands for the file's syntax
  pub reads : AreBytes file → Reads tree file t.parses.syntax
  reads bytes = reads_of file tree t.tokens t.parses.syntax bytes t.cut t.parses.derives t.parses.stands

  pub typed : (r : Result Typed Refusal) → Elaborated t.parses.syntax r → IfOk r (IsTyped file)
  typed (Ok p) e = record { tokens = t.tokens; syntax = t.parses.syntax; reads = is_read; types = e }
  typed (Err e) h = tt

  pub sound : AreBytes file → (r : Result Typed Refusal) → Elaborated t.parses.syntax r → IfOk r Sound
  sound bytes (Ok p) e = record {
    tree = tree;
    bytes = file;
    types = record { syntax = t.parses.syntax; reads = reads bytes; types = e };
  }
  sound bytes (Err e) h = tt

  pub refused : (r : Result Typed Refusal) → Elaborated t.parses.syntax r → IfErr r (IsBroken file)
  refused (Ok p) e = tt
  refused (Err (Code code place)) e = (files.typing t.tokens t.parses.syntax is_read e, tt)
  refused (Err NoMemory) e = t.cut.short
