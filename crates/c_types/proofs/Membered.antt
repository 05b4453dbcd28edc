-- Members that are found by their names.
use Rattle.std.proofs.Common.{◌≡◌, ℕ, suc, ◌+◌, ◌<◌, List, length, drop, drop-cons, get_or, map, cond, Option, Some}
use Rattle.text_keys.specs.declared.TextKey.{TextKey}
use Rattle.std.proofs.Common.{ap, ◌∙◌, sym, arith}
use Rattle.std.specs.Prelude.{bytes_eq}
use Rattle.std.specs.Map.{lookup}
use Rattle.indexmap.specs.IndexMap.{insert_entry}
use Rattle.c_tree.specs.declared.typed.Member.{Member}
use Rattle.c_types.specs.Stands.{text_at, first_named}
use Rattle.c_types.proofs.Binding.{lookup_insert}

-- the names of the members from a number on
abbrev pub named_from : List ℕ → List Member → ℕ → List ℕ → Option ℕ
named_from file ms k name = first_named file k (map (λ m. m.name) (drop k ms)) name

-- the name of the member before them is noted
pub named_turn : (file : List ℕ) (ms : List Member) (k j : ℕ) (d : Member) (es : List (TextKey × ℕ))
    (t : TextKey) → k ≡ suc j → j < length ms → t.bytes.now ≡ text_at file (get_or ms j d).name →
    ((name : List ℕ) → lookup (λ x. bytes_eq name x.bytes.now) es ≡ named_from file ms k name) → (name : List ℕ) →
    lookup (λ x. bytes_eq name x.bytes.now) (insert_entry (λ x y. bytes_eq x.bytes.now y.bytes.now) es t j)
    ≡ named_from file ms j name
named_turn file ms k j d es t e lt f h name =
    let more : k ≡ j + 1 = omega (arith, e) in
    lookup_insert es t j name
    ∙ ap (λ b. cond (bytes_eq b name) (Some j) (lookup (λ x. bytes_eq name x.bytes.now) es)) f
    ∙ ap (λ o. cond (bytes_eq (text_at file (get_or ms j d).name) name) (Some j) o)
    (h name ∙ ap (λ x. first_named file x (map (λ m. m.name) (drop k ms)) name) more
    ∙ ap (λ x. first_named file (j + 1) (map (λ m. m.name) (drop x ms)) name) e)
    ∙ sym (ap (λ xs. first_named file j (map (λ m. m.name) xs) name) (drop-cons ms j d lt))
