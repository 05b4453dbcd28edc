-- What one function answers, as the answer of another.
use Rattle.std.proofs.Common.{◌≡◌, ℕ, suc, ◌≤◌, List, [], ◌∷◌, None, Result, Ok, Err, MatchResult, IfOk, ap, subst, ◌∙◌}
use Rattle.std.proofs.Common.{arith}
use Rattle.ck_base.specs.Tokens.{Lexeme}
use Rattle.c_tree.specs.declared.syntax.Head.{Head}
use Rattle.c_tree.specs.Symbols.{symbol, head_of}
use Rattle.c_tree.specs.Grammar.{Goal}
use Rattle.c_phrases.specs.declared.cursor.Cursor.{Cursor}
use Rattle.c_phrases.specs.declared.cursor.Part.{Part}
use Rattle.c_phrases.specs.declared.cursor.Parts.{Parts}
use Rattle.c_phrases.specs.declared.cursor.Stop.{Stop}
use Rattle.c_phrases.specs.declared.cursor.Stop.TheVariants.{NoMemory, NoTree}
use Rattle.c_phrases.specs.Reading
use Rattle.c_phrases.specs.Reading.{Names, Parsed, ParsedParts}
use Rattle.c_phrases.specs.Got.{Grows, Got, GotParts, Fails, Reads, rest_of}
use Rattle.c_phrases.specs.Runs.{grown}
use Rattle.c_phrases.proofs.Made.{grows_on, fails_same}
use Rattle.c_phrases.proofs.Productions.{grown_is, grown_none}

pub got_same : {old new : Cursor} {read other : Parsed} {part : Part} → read ≡ other → Got old new other part →
    Got old new read part
got_same same g = record { tree = g.tree; means = g.means; reads = same ∙ g.reads; grows = g.grows }

pub got_on : {old mid new : Cursor} {read : Parsed} {part : Part} → Grows old.nodes.items mid.nodes.items →
    Got mid new read part → Got old new read part
got_on before g = record { tree = g.tree; means = g.means; reads = g.reads; grows = grows_on before g.grows }

pub got_from : {old mid new : Cursor} {read : Parsed} {part : Part} → mid.nodes.items ≡ old.nodes.items →
    Got mid new read part → Got old new read part
got_from {new = new} same g =
    record {
      tree = g.tree;
      means = g.means;
      reads = g.reads;
      grows = subst (λ v. Grows v new.nodes.items) same g.grows;
    }

pub parts_from : {old mid new : Cursor} {read : ParsedParts} {parts : Parts} → mid.nodes.items ≡ old.nodes.items →
    GotParts mid new read parts → GotParts old new read parts
parts_from {new = new} same g =
    record {
      trees = g.trees;
      holds = g.holds;
      reads = g.reads;
      grows = subst (λ v. Grows v new.nodes.items) same g.grows;
    }

-- a tree that goes on at the left
pub got_grown : {old new : Cursor} {read other : Parsed} {part : Part} (h : ℕ) → read ≡ grown h other →
    part.height ≤ h → Got old new other part → Got old new read part
got_grown h same low g = record {
  tree = g.tree;
  means = g.means;
  reads = same
      ∙ grown_is h g.reads (let t = g.means.tall in omega arith);
  grows = g.grows;
}

pub fails_grown : {read : Parsed} (other : Parsed) (h : ℕ) (e : Stop) → read ≡ grown h other → Fails e other →
    Fails e read
fails_grown other h NoMemory same f = tt
fails_grown other h NoTree same f = same ∙ grown_none h f

pub read_at : (b h : ℕ) (goal : Goal) (types : Names) (ts : List Lexeme) → b ≡ suc h →
    Reading.read b goal types ts ≡ Reading.one_lower (Reading.read h) (suc h) goal types ts
unfolding Reading.read
read_at b h goal types ts e = ap (λ v. Reading.read v goal types ts) e

-- what the function for a phrase answers, one lower
pub reads_lower : (b h : ℕ) (goal other : Goal) (types : Names) (old new : Cursor) (result : Result Part Stop) →
    goal ≡ other → b ≡ suc h →
    Reads old new (Reading.one_lower (Reading.read h) (suc h) other types (rest_of old)) result →
    Reads old new (Reading.read b goal types (rest_of old)) result
reads_lower b h goal other types old new (Ok part) e f got =
    got_same (ap (λ v. Reading.read b v types (rest_of old)) e ∙ read_at b h other types (rest_of old) f) got
reads_lower b h goal other types old new (Err stop) e f fails =
    fails_same stop (ap (λ v. Reading.read b v types (rest_of old)) e ∙ read_at b h other types (rest_of old) f) fails

pub read_none : (b : ℕ) (goal : Goal) (types : Names) (ts : List Lexeme) → b ≡ 0 → Reading.read b goal types ts ≡ None
unfolding Reading.read
read_none b goal types ts e = ap (λ v. Reading.read v goal types ts) e

pub operand_at : (below : ℕ) (types : Names) (ts rest : List Lexeme) (t : Lexeme) (k : Head) → ts ≡ t ∷ rest →
    head_of (symbol t) ≡ k → Reading.operand (Reading.read below) (suc below) types ts
    ≡ Reading.operand_by (Reading.read below) (suc below) k t types rest
unfolding Reading.operand
operand_at below types ts rest t k e f =
    ap (λ v. Reading.operand (Reading.read below) (suc below) types v) e
    ∙ ap (λ v. Reading.operand_by (Reading.read below) (suc below) v t types rest) f

pub operand_none : (below : ℕ) (types : Names) (ts : List Lexeme) → ts ≡ [] →
    Reading.operand (Reading.read below) (suc below) types ts ≡ None
unfolding Reading.operand
operand_none below types ts e = ap (λ v. Reading.operand (Reading.read below) (suc below) types v) e

-- two facts of what a function gives
pub and_ok : {A E : Type 0} (r : Result A E) (P P' : A → Type 0) (Q : E → Type 0) → MatchResult r P Q → IfOk r P' →
    MatchResult r (λ x. P x × P' x) Q
and_ok (Ok x) P P' Q m n = (m, n)
and_ok (Err e) P P' Q m n = m
