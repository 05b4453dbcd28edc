-- From a reading of a file to the answer.
use Rattle.std.proofs.Common.{◌≡◌, ℕ, suc, ◌+◌, ◌≤◌, ◌<◌, List, [], ◌∷◌, ◌++◌, length, reverse, map, take, get_or}
use Rattle.std.proofs.Common.{Option, Some, None, refl, ap, sym, subst, ◌∙◌, arith}
use Rattle.std.proofs.lemmas.Option.{none-some}
use Rattle.ck_base.specs.Tokens.{Lexeme}
use Rattle.c_tree.specs.declared.syntax.Tree.{Tree}
use Rattle.c_tree.specs.Syntax.{Syn, StandsAt}
use Rattle.c_tree.specs.Parses.{DerivesFile}
use Rattle.c_tree.specs.File.{IsCut}
use Rattle.c_externals.specs.Statements.{read_file}
use Rattle.c_phrases.specs.Reading.{Names}
use Rattle.c_phrases.specs.declared.cursor.Stop.{Stop}
use Rattle.c_phrases.specs.declared.cursor.Stop.TheVariants.{NoTree}
use Rattle.c_phrases.specs.Got.{Fails}
use Rattle.c_parse.specs.Parsed.{IsTreeOf, HasNoTree}
use Rattle.c_phrases.proofs.Tools.{given}
use Rattle.c_externals.proofs.StatementsSound.{file_sound}
use Rattle.c_externals.proofs.StatementsComplete.{file_complete}
use Rattle.std.proofs.Math.Seq.{take-suc}
use Rattle.c_phrases.proofs.Force.{reversed_push}
use Rattle.c_externals.proofs.Outer.{file_of_none}

pub tree_made : (file : List ℕ) (tokens ts : List Lexeme) (x : Syn) (tree : Tree) → IsCut file tokens → ts ≡ tokens →
    read_file 199 ts ≡ Some x → StandsAt tree.nodes tree.root x → length tree.nodes ≤ 67_108_864 → IsTreeOf file tree
tree_made file tokens ts x tree cut same reads at few =
    let found = given (file_sound 199 ts) reads in
    record {
      tokens = tokens;
      cut = cut;
      parses = record { syntax = x; derives = subst (λ v. DerivesFile v x) same found.0; stands = at };
      low = found.1;
      few = few;
    }

pub none_made : (tokens ts : List Lexeme) → ts ≡ tokens → read_file 199 ts ≡ None → HasNoTree tokens
none_made tokens ts same none x derives low =
    none-some x (sym none ∙ file_complete 199 (subst (λ v. DerivesFile v x) (sym same) derives) low)

-- a file without tokens has a tree
pub some_token : (ts : List Lexeme) → read_file 199 ts ≡ None → 0 < length ts
some_token [] none = absurd (none-some _ (sym none ∙ file_of_none [] refl))
some_token (t ∷ ts) none = omega arith

pub fails_none : {A : Type 0} (e : Stop) (o : Option A) → e ≡ NoTree → Fails e o → o ≡ None
fails_none e o is why = subst (λ v. Fails v o) is why

-- names that were added one by one, each before those that were there
pub names_taken : {A : Type 0} (f : A → List ℕ) (xs : List A) (i : ℕ) (x : A) (old now next : Names) → i < length xs →
    now ≡ reverse (map f (take i xs)) ++ old → next ≡ f (get_or xs i x) ∷ now →
    next ≡ reverse (map f (take (i + 1) xs)) ++ old
names_taken f xs i x old now next within before added =
    let same : suc i ≡ i + 1 = omega arith in
    added ∙ ap (λ v. f (get_or xs i x) ∷ v) before
    ∙ ap (λ v. v ++ old) (sym (reversed_push f (take i xs) (get_or xs i x))
    ∙ ap (λ v. reverse (map f v)) (sym (take-suc xs i x within)) ∙ ap (λ v. reverse (map f (take v xs))) same)
