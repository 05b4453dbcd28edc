-- The tree of a file.
use Rattle.std.specs.Prelude.{List, []}
use Rattle.ck_base.specs.declared.tokens.TokenKind.TheVariants.{Word}
use Rattle.ck_base.specs.Tokens.{Lexeme}
use Rattle.c_tree.specs.declared.syntax.Tree.{Tree}
use Rattle.c_tree.specs.declared.syntax.NodeKind.TheVariants.{File}
use Rattle.c_tree.specs.Syntax.{Syn, Syns, node, StandsAt}
use Rattle.c_tree.specs.Grammar.{predeclared, Externals}

-- What gives the place of a whole file: its beginning. It may have no token at all.
abbrev pub file_start : Lexeme
file_start = record { kind = Word; text = []; span = record { start = 0; end = 0 }; pos = record { line = 1; col = 1 } }

-- The tokens are a file, and this is its tree.
pub data DerivesFile : List Lexeme → Syn → Type 0 where
  file : {tokens : List Lexeme} {xs : Syns} → Externals predeclared tokens xs →
      DerivesFile tokens (node File file_start xs)

-- The tree is one of these tokens, of which kinds and texts alone decide the productions. It stands among nodes.
pub record Parses (tokens : List Lexeme) (tree : Tree) : Type 0 where
  pub syntax : Syn
  pub derives : DerivesFile tokens syntax
  pub stands : StandsAt tree.nodes tree.root syntax
