-- What the table of keywords says of a word.
use Rattle.std.proofs.Common.{◌≡◌, ℕ, ◌≤◌, Bool, true, false, List, [], ◌∷◌, length, get_or, refl, ap, sym, ◌∙◌, arith}
use Rattle.std.specs.Prelude.{if◌then◌else◌, ◌&&◌, ◌||◌, ◌==◌, map, bytes_eq}
use Rattle.ck_base.specs.Tokens.{is_among, keywords}
use Rattle.ck_base.specs.declared.tokens.TokenKind.TheVariants as Tokens
use Rattle.c_tree.specs.declared.syntax.Symbol.{Symbol}
use Rattle.c_tree.specs.declared.syntax.Symbol.TheVariants.{Word, Other}
use Rattle.c_tree.specs.Symbols.{look_up, keyword_symbols, symbol_of}
use Rattle.c_phrases.specs.Words.{word_or}

is_known : Symbol → Bool
is_known Other = false
is_known _ = true

all_known : List (List ℕ × Symbol) → Bool
all_known [] = true
all_known (entry ∷ table) = is_known entry.1 && all_known table

known_same : (s : Symbol) → is_known s ≡ true → s ≡ word_or s
unfolding is_known
known_same Other e = cc
known_same _ e = refl

pub other_same : (s : Symbol) → (s ≡ Other → ⊥) → s ≡ word_or s
other_same Other e = absurd (e refl)
other_same _ e = refl

both : (a b : Bool) → (a && b) ≡ true → (a ≡ true) × (b ≡ true)
both true b e = (refl, e)
both false b e = cc

keyed : (table : List (List ℕ × Symbol)) (text : List ℕ) → all_known table ≡ true →
    (if is_among (map (λ entry. entry.0) table) text then look_up table text else Word) ≡ word_or (look_up table text)
unfolding all_known
keyed [] text e = refl
keyed (entry ∷ table) text e = go (bytes_eq entry.0 text) (both _ _ e) (λ k. keyed table text k)
  where
    go : (b : Bool) → (is_known entry.1 ≡ true) × (all_known table ≡ true) →
        (all_known table ≡ true →
        (if is_among (map (λ entry. entry.0) table) text then look_up table text else Word)
        ≡ word_or (look_up table text)) →
        (if (b || is_among (map (λ entry. entry.0) table) text) then (if b then entry.1 else look_up table text)
        else Word) ≡ word_or (if b then entry.1 else look_up table text)
    go true known rest = known_same entry.1 known.0
    go false known rest = rest known.1

pub word_is : (text : List ℕ) → symbol_of Tokens.Word text ≡ word_or (look_up keyword_symbols text)
unfolding symbol_of keyword_symbols keywords all_known is_known
word_is text = keyed keyword_symbols text refl

abbrev begins : ℕ → List ℕ → Bool
begins b [] = false
begins b (x ∷ xs) = x == b

-- the entries of a table whose texts begin with this byte
abbrev pub beginning : ℕ → List (List ℕ × Symbol) → List (List ℕ × Symbol)
beginning b [] = []
beginning b (entry ∷ table) = if begins b entry.0 then entry ∷ beginning b table else beginning b table

-- which are all that a text can be that begins so
pub by_first : (b : ℕ) (table : List (List ℕ × Symbol)) (text : List ℕ) → 1 ≤ length text → get_or text 0 0 ≡ b →
    look_up (beginning b table) text ≡ look_up table text
by_first b table [] much e = absurd (omega arith)
by_first b [] (x ∷ xs) much e = refl
by_first b (entry ∷ table) (x ∷ xs) much e = go entry.0 (begins b entry.0) refl (by_first b table (x ∷ xs) much e)
  where
    go : (key : List ℕ) (f : Bool) → begins b key ≡ f →
        look_up (beginning b table) (x ∷ xs) ≡ look_up table (x ∷ xs) →
        look_up (if f then ((key, entry.1) ∷ beginning b table) else beginning b table) (x ∷ xs)
        ≡ (if bytes_eq key (x ∷ xs) then entry.1 else look_up table (x ∷ xs))
    go key true f rest = ap (λ v. if bytes_eq key (x ∷ xs) then entry.1 else v) rest
    go [] false f rest = rest
    go (y ∷ ys) false f rest =
        rest ∙ sym (ap (λ v. if (v && bytes_eq ys xs) then entry.1 else look_up table (x ∷ xs))
        (ap (λ v. y == v) e ∙ f))
