-- Files by name after one is replaced or added.
use Rattle.std.proofs.Common.{◌≡◌, ◌≢◌, ℕ, ◌+◌, ◌<◌, Bool, true, false, cond, not, List, [], ◌∷◌, ◌++◌, length, map}
use Rattle.std.proofs.Common.{get_or, set, Option, Some, None, refl, sym, ◌∙◌, ap, arith}
use Rattle.std.specs.Prelude.{position, slice_get, option_and_then, bytes_eq}
use Rattle.std.specs.List.{position_or_len}
use Rattle.std.proofs.lemmas.Grind.{common_steps}
use Rattle.std.proofs.lemmas.Option.{gets}
use Rattle.std.proofs.lemmas.List.Quantifiers.{position-Some}
use Rattle.std.proofs.lemmas.List.Folds.{position_or_len_push, length-prefix_len}
use Rattle.std.proofs.lemmas.Bool.{false_from_ne_true}
use Rattle.std.proofs.lemmas.Slice.Eq.{bytes_eq-Decides}
use Rattle.ck_base.specs.Named.{NamedBytes, PutsFile, place_of}

position_or_len-map : {A B : Type 0} (f : A → B) (p : B → Bool) (xs : List A) →
    position_or_len p (map f xs) ≡ position_or_len (λ x. p (f x)) xs
position_or_len-map f p [] = refl
position_or_len-map f p (x ∷ xs) = ap (λ n. cond (not (p (f x))) (1 + n) 0) (position_or_len-map f p xs)

pub position-map : {A B : Type 0} (f : A → B) (p : B → Bool) (xs : List A) →
    position p (map f xs) ≡ position (λ x. p (f x)) xs
position-map f p xs = grind (arith, common_steps, position_or_len-map f p xs)

-- a name stands at its place
place_of-Some : (names : List (List ℕ)) (name : List ℕ) (i : ℕ) → place_of names name ≡ Some i →
    (i < length names) × (get_or names i [] ≡ name)
place_of-Some names name i found =
    let at = position-Some (λ n. bytes_eq n name) names i [] found in
    (at.0, (bytes_eq-Decides (get_or names i []) name).0 at.1)

slice_get-set_other : {A : Type 0} (xs : List A) (i j : ℕ) (x : A) → j ≢ i → slice_get (set xs i x) j ≡ slice_get xs j
slice_get-set_other xs i j x differs = grind (arith, common_steps, gets)

-- a write to place i is not seen at another
seen_elsewhere : {A : Type 0} (xs : List A) (i : ℕ) (x : A) (place : Option ℕ) → place ≢ Some i →
    option_and_then (slice_get (set xs i x)) place ≡ option_and_then (slice_get xs) place
seen_elsewhere xs i x None differs = refl
seen_elsewhere xs i x (Some j) differs = slice_get-set_other xs i j x (λ same. differs (ap Some same))

-- the bytes under a name that is there are replaced
pub PutsFile-set : (files : NamedBytes) (name bytes : List ℕ) (i : ℕ) → length files.names ≡ length files.contents →
    place_of files.names name ≡ Some i →
    PutsFile files (record files { contents = set files.contents i bytes }) name bytes
PutsFile-set files name bytes i same_length found =
    let this = place_of-Some files.names name i found in
    record {
      done = rw found (grind (arith, common_steps, gets));
      others = λ other apart. seen_elsewhere files.contents i bytes (place_of files.names other)
          (λ there. apart (sym (place_of-Some files.names other i there).1 ∙ this.1));
    }

-- a name that is not there is added with its bytes
pub PutsFile-push : (files : NamedBytes) (name bytes : List ℕ) → length files.names ≡ length files.contents →
    place_of files.names name ≡ None →
    PutsFile files (record { names = files.names ++ name ∷ []; contents = files.contents ++ bytes ∷ [] }) name bytes
PutsFile-push files name bytes same_length missing = record {
  done =
      let equal : bytes_eq name name ≡ true = (bytes_eq-Decides name name).1 refl in
      let last : place_of (files.names ++ name ∷ []) name ≡ Some (length files.names) =
      grind (
        arith,
        common_steps,
        position_or_len_push (λ n. bytes_eq n name) files.names name,
        length-prefix_len (λ n. not (bytes_eq n name)) files.names,
      ) in
      rw last (grind (arith, common_steps, gets));
  others = λ other apart.
      let differs : bytes_eq name other ≡ false =
      false_from_ne_true (bytes_eq name other) (λ equal. apart (sym ((bytes_eq-Decides name other).0 equal))) in
      let same_place : place_of (files.names ++ name ∷ []) other ≡ place_of files.names other =
      grind (arith, common_steps, position_or_len_push (λ n. bytes_eq n other) files.names name) in
      rw same_place (grind (arith, common_steps, gets));
}
