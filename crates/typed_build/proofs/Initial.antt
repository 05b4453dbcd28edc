-- Where the initial data of a program stand under a map, and how many bytes they have.
use Rattle.std.proofs.Common.{◌≡◌, ℕ, zero, suc, ◌+◌, ◌*◌, ◌%◌, ◌^◌, ◌≤◌, min, max, List, [], ◌∷◌, length, map, refl}
use Rattle.std.proofs.Common.{sym, ap, ◌∙◌, subst, arith, inl, inr}
use Rattle.std.proofs.lemmas.Bool.{cases_lt}
use Rattle.std.proofs.lemmas.List.{length-map}
use Rattle.accepted_files.specs.Accepted.{weight_limit}
use Rattle.c_tree.specs.Layout.{size_limit}
use Rattle.c_tree.specs.declared.typed.CType.{CType}
use Rattle.c_tree.specs.declared.typed.FunDef.{FunDef}
use Rattle.c_tree.specs.declared.typed.Typed.{Typed}
use Rattle.cap_concentrate.specs.Rounding.{owned}
use Rattle.cap_concentrate.proofs.Owned.{owned_short, owned_near}
use Rattle.program_needs.proofs.Lengths.{alignment_most}
use Rattle.obj_mem.specs.Legal.{AllInRange, AreApart, objects_of}
use Rattle.obj_mem.specs.Needs.{Legal, global_need, literal_need, weight_in, function_needs}
use Rattle.obj_mem.specs.Table.{table_length, entry_count}
use Rattle.obj_mem.specs.declared.map.Map.{Map}
use Rattle.bounds_place.specs.Placing.{AllWithin, IsStretch, weightless, data_room}
use Rattle.cap_reloc.specs.Begins.{asked_by}
use Rattle.cap_reloc.specs.Initial.{AreInitial, lowest, highest}
use Rattle.typed_build.proofs.Locals.{few_needs}

-- ---- the lowest base and the highest end

lowest_is : (base to : ℕ) (es : List (ℕ × ℕ)) → AllWithin base to es → lowest base es ≡ base
unfolding lowest
lowest_is base to [] h = refl
lowest_is base to (e ∷ es) h =
    let m : min base e.0 ≡ base = omega (arith, h.0) in ap (λ v. lowest v es) m ∙ lowest_is base to es h.2

highest_from : (end : ℕ) (es : List (ℕ × ℕ)) → end ≤ highest end es
unfolding highest
highest_from end [] = omega arith
highest_from end (e ∷ es) = omega (arith, highest_from (max end (e.0 + e.1)) es)

highest_to : (from to end : ℕ) (es : List (ℕ × ℕ)) → AllWithin from to es → end ≤ to → highest end es ≤ to
unfolding highest
highest_to from to end [] h le = le
highest_to from to end (e ∷ es) h le = highest_to from to (max end (e.0 + e.1)) es h.2 (omega (arith, h.1))

highest_below : (end : ℕ) (es : List (ℕ × ℕ)) → AllInRange es → end ≤ 2 ^ 40 → highest end es ≤ 2 ^ 40
unfolding highest
highest_below end [] h le = le
highest_below end (e ∷ es) h le = highest_below (max end (e.0 + e.1)) es h.2 (omega (arith, h.1))

-- ---- how many entries the table has

length_needs : (types : List CType) (v : ℕ → ℕ) (k : ℕ) (ds : List FunDef)
    → length (function_needs types v k ds) ≡ length ds
length_needs types v k [] = refl
length_needs types v k (d ∷ ds) = ap suc (length_needs types v (suc k) ds)

entries_are : (p : Typed) → entry_count (asked_by p) ≡ length p.globals + length p.literals + length p.funs + 2
entries_are p =
    omega (
      arith,
      length-map p.globals (global_need p.types),
      length-map p.literals literal_need,
      length_needs p.types (weight_in p) 0 p.funs,
    )

-- whatever the functions weigh
pub same_table : (p : Typed) → table_length (weightless p) ≡ table_length (asked_by p)
same_table p =
    let n = length_needs p.types (λ f. zero) 0 p.funs in
    let m = length_needs p.types (weight_in p) 0 p.funs in
    ap (λ k. owned (16 * k)) (omega (arith, n, m))

-- an owned length is little more than the length
owned_little : (n : ℕ) → n ≤ 67608896 → owned n ≤ 67900000
owned_little n most =
    elim (cases_lt n 4096) as (λ _. owned n ≤ 67900000) [
      | inl short ↦ omega (arith, owned_short n short)
      | inr long ↦ omega (arith, owned_near n, alignment_most n (omega arith) (omega arith))
    ]

pub table_most : (p : Typed) → data_room p ≤ size_limit → 8 * length p.funs ≤ weight_limit →
    table_length (asked_by p) ≤ 67900000
table_most p within few =
    let globals = few_needs (map (global_need p.types) p.globals) in
    let literals = few_needs (map literal_need p.literals) in
    let g = length-map p.globals (global_need p.types) in
    let l = length-map p.literals literal_need in
    let entries : 16 * entry_count (asked_by p) ≤ 67608896 =
    omega (arith, entries_are p, globals, literals, within, few, g, l) in
    omega (arith, owned_little (16 * entry_count (asked_by p)) (omega (arith, entries)), entries)

-- ---- where they stand

-- Whole granules from the table's base on, which hold the table, and are not many more
pub record Stand (m : Map) (base size : ℕ) : Type 0 where
  pub from : base ≡ m.table.0
  pub whole : size % 16 ≡ 0
  pub table : m.table.1 ≤ size
  pub most : size ≤ m.table.1 + 67108880
  pub below : base + size ≤ 2 ^ 40
  pub off_text : AreApart m.text (base, size)
  pub off_heap : AreApart (base, size) m.heap
  pub off_stack : AreApart (base, size) m.stack

turned : (a b : ℕ × ℕ) → AreApart a b → AreApart b a
turned a b (inl h) = inr h
turned a b (inr h) = inl h

shorter : (a n size : ℕ) (b : ℕ × ℕ) → n ≤ size → AreApart (a, size) b → AreApart (a, n) b
shorter a n size b le (inl h) = inl (omega arith)
shorter a n size b le (inr h) = inr h

pub stand : (p : Typed) (m : Map) → Legal p m → (size : ℕ) → IsStretch (weightless p) m size
    → (base : ℕ) (bytes : List ℕ) → AreInitial p m base bytes → Stand m base (length bytes)
stand p m legal size s base bytes h =
    let es = objects_of (asked_by p) m in
    let from : base ≡ m.table.0 = h.from ∙ lowest_is m.table.0 (m.table.0 + size) es s.objects in
    let to = h.to in
    let even = legal.table_aligned in
    let multiple = s.multiple in
    let holds = s.table in
    let most = s.most in
    let low = highest_from (m.table.0 + m.table.1) es in
    let high = highest_to m.table.0 (m.table.0 + size) (m.table.0 + m.table.1) es s.objects (omega arith) in
    let range = highest_below (m.table.0 + m.table.1) es legal.in_range.2.2.2.2 legal.in_range.2.1 in
    let short : length bytes ≤ size = omega arith in
    let off = λ (b : ℕ × ℕ) (a : AreApart (m.table.0, size) b).
    subst (λ x. AreApart (x, length bytes) b) (sym from) (shorter m.table.0 (length bytes) size b short a) in
    record {
      from = from;
      whole = omega arith;
      table = omega arith;
      most = omega arith;
      below = omega arith;
      off_text = turned (base, length bytes) m.text (off m.text s.off_text);
      off_heap = off m.heap s.off_heap;
      off_stack = off m.stack s.off_stack;
    }
