-- Nodes over runs of tokens.
use Rattle.std.specs.Prelude.{ℕ, List, Some, None, if◌then◌else◌, nat_le}
use Rattle.ck_base.specs.Tokens.{Lexeme}
use Rattle.c_tree.specs.declared.syntax.NodeKind.TheVariants as Kinds
use Rattle.c_tree.specs.Syntax.{node, height}
use Rattle.c_phrases.specs.Reading.{◌>>=◌, Parsed, pieces, qualifiers}

-- a tree, where it is not too high
abbrev pub grown : ℕ → Parsed → Parsed
grown h read = read >>= λ a. if nat_le (height a.0) h then Some (a.0, a.1) else None

-- string literals behind the first, with it
abbrev pub text_from : ℕ → Lexeme → List Lexeme → Parsed
text_from h t ts = grown h (Some (node Kinds.Text t (pieces ts).0, (pieces ts).1))

-- the qualifiers behind a `*`
abbrev pub qualifiers_node : Lexeme → List Lexeme → Parsed
qualifiers_node o ts = Some (node Kinds.Qualifiers o (qualifiers ts).0, (qualifiers ts).1)
