-- What the steps of a production read, behind parts that stand before it.
use Rattle.std.proofs.Common.{◌≡◌, max, true, false, List, [], ◌∷◌, ◌++◌, Some, Result, Ok, Err, IfOk, refl, ap, ◌∙◌}
use Rattle.std.specs.Prelude.{IfErr}
use Rattle.ck_base.specs.Tokens.{Lexeme}
use Rattle.c_tree.specs.declared.syntax.NodeKind.TheVariants as Kinds
use Rattle.c_tree.specs.Syntax.{Syns, nil, one, joined}
use Rattle.c_tree.specs.Grammar.{Goal, Nameless}
use Rattle.c_phrases.specs.declared.cursor.Cursor.{Cursor}
use Rattle.c_phrases.specs.declared.cursor.Part.{Part}
use Rattle.c_phrases.specs.declared.cursor.Parts.{Parts}
use Rattle.c_phrases.specs.declared.cursor.Stop.{Stop}
use Rattle.c_phrases.specs.declared.cursor.Stop.TheVariants.{NoMemory}
use Rattle.c_phrases.specs.Reading
use Rattle.c_phrases.specs.Reading.{Names, Parsed, ParsedParts, Reader, starts, is_close_parenthesis}
use Rattle.c_phrases.specs.Got.{Holds, Got, GotParts, ReadsParts, after}
use Rattle.c_phrases.specs.Steps.{alone, specified_from}
use Rattle.c_phrases.proofs.Made.{holds_on, holds_more, fails_memory, then_is, else_is}

pub parts_same : {old new : Cursor} {read other : ParsedParts} {parts : Parts} → read ≡ other →
    GotParts old new other parts → GotParts old new read parts
parts_same same g = record { trees = g.trees; holds = g.holds; reads = same ∙ g.reads; grows = g.grows }

-- one more part
pub followed : {old new : Cursor} {read : Parsed} {start : Parts} {part : Part} {ys : Syns} (steps : ParsedParts)
    (r : Result Parts Stop) → steps ≡ alone read → Got old new read part → Holds old.nodes.items start ys →
    IfOk r (λ p. p.kids.items ≡ start.kids.items ++ (part.number ∷ [])) →
    IfOk r (λ p. p.height ≡ max start.height part.height) → IfErr r (λ e. e ≡ NoMemory) →
    ReadsParts old new (after ys steps) r
followed {ys = ys} steps (Ok p) same g h kids tall full = record {
  trees = joined ys (one g.tree);
  holds = holds_more (holds_on g.grows h) g.means kids tall;
  reads = ap (λ v. after ys v) same ∙ ap (λ v. after ys (alone v)) g.reads;
  grows = g.grows;
}
followed steps (Err e) same g h kids tall full = fails_memory e _ full

module _ (rec : Reader) (types : Names) (ts : List Lexeme) where
  pub type_name_is : Reading.type_name rec types ts ≡ specified_from rec Kinds.TypeName Nameless types ts
  unfolding Reading.type_name
  type_name_is = refl

  pub listed_none : (g : Goal) → starts is_close_parenthesis ts ≡ true → Reading.listed rec g types ts ≡ Some (nil, ts)
  unfolding Reading.listed
  listed_none g e = then_is _ e

  pub listed_some : (g : Goal) → starts is_close_parenthesis ts ≡ false →
      Reading.listed rec g types ts ≡ Reading.list_of rec g types ts
  unfolding Reading.listed
  listed_some g e = else_is _ e
