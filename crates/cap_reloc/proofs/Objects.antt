-- The bytes of each object, where no two objects have a byte in common.
use Rattle.std.proofs.Common.{◌≡◌, ℕ, zero, suc, ◌+◌, ◌-◌, ◌<◌, ◌≤◌, min, max, List, [], ◌∷◌, length, get_or, map, Some}
use Rattle.std.proofs.Common.{refl, sym, ap, ◌∙◌, subst, arith, inl, inr}
use Rattle.std.specs.Prelude.{◌⊎◌, slice_get, slice_index}
use Rattle.std.specs.List.{All, zip}
use Rattle.std.proofs.lemmas.Bool.{cases_lt}
use Rattle.std.proofs.lemmas.Bool.Decides.{nat_tests}
use Rattle.std.proofs.lemmas.List.{length-map, length-append, get_or_past, get_or_append_left, get_or-append-add}
use Rattle.std.proofs.lemmas.Option.{slice_get_within}
use Rattle.cap_concentrate.proofs.Least.{rounded_up_ge}
use Rattle.c_tree.specs.declared.typed.Typed.{Typed}
use Rattle.c_tree.specs.WellTyped.{WellTyped}
use Rattle.obj_mem.specs.declared.map.Map.{Map}
use Rattle.obj_mem.specs.Agreement.{Paired}
use Rattle.obj_mem.specs.Legal.{ObjectNeed, owned_of, AreApart, IsApartFrom, AllApart, placed_at, objects_of}
use Rattle.obj_mem.specs.Needs.{global_need, literal_need, Legal}
use Rattle.obj_mem.proofs.Pairs.{join_both}
use Rattle.cap_reloc.specs.Begins.{asked_by}
use Rattle.cap_reloc.specs.Initial.{Content, byte_in, byte_of, global_content, literal_content, global_contents}
use Rattle.cap_reloc.specs.Initial.{literal_contents, contents, lowest, highest, AreInitial, BeginsAs, IsOff}
use Rattle.cap_reloc.specs.Initial.{ObjectsBegin}
use Rattle.cap_reloc.proofs.Contents.{lowest_least, highest_most}
use Rattle.cap_reloc.proofs.Pairs.{pairs_length, pair_at}
use Rattle.cap_reloc.proofs.Under.{globals_length, literals_length, owned_least, bytes_fit}

-- these bytes lie in an extent, from its base on
pub record LiesAt (e : ℕ × ℕ) (c : Content) : Type 0 where
  pub base : c.0 ≡ e.0
  pub most : length c.1 ≤ e.1

-- ---- one address

misses : (under : ℕ) (c : Content) (a : ℕ) → (a < c.0) ⊎ (c.0 + length c.1 ≤ a) → byte_in under c a ≡ under
misses under c a (inl h) = grind (arith, nat_tests)
misses under c a (inr h) = grind (arith, nat_tests)

hits : (c : Content) (a : ℕ) → c.0 ≤ a → byte_in 0 c a ≡ slice_index c.1 (a - c.0)
hits c a h = elim (cases_lt a (c.0 + length c.1)) as (λ _. byte_in 0 c a ≡ slice_index c.1 (a - c.0)) [
  | inl less ↦ grind (arith, nat_tests)
  | inr more ↦ let p : length c.1 ≤ a - c.0 = omega arith in
      misses 0 c a (inr more) ∙ sym (get_or_past c.1 (a - c.0) 0 p)
]

-- an address of an extent is none of an extent apart from it
apart_misses : (under : ℕ) (e f : ℕ × ℕ) (c : Content) (a : ℕ) → AreApart e f → LiesAt f c → e.0 ≤ a → a < e.0 + e.1 →
    byte_in under c a ≡ under
apart_misses under e f c a (inl h) l from to = let b = l.base in misses under c a (inl (omega arith))
apart_misses under e f c a (inr h) l from to = let b = l.base in let m = l.most in misses under c a (inr (omega arith))

swap_apart : (e f : ℕ × ℕ) → AreApart e f → AreApart f e
swap_apart e f (inl h) = inr h
swap_apart e f (inr h) = inl h

none_hit : (under : ℕ) (e : ℕ × ℕ) (es : List (ℕ × ℕ)) (cs : List Content) (a : ℕ) → IsApartFrom e es →
    Paired LiesAt es cs → e.0 ≤ a → a < e.0 + e.1 → byte_of under cs a ≡ under
unfolding byte_of
none_hit under e [] [] a h l from to = refl
none_hit under e [] (c ∷ cs) a h l from to = absurd l
none_hit under e (f ∷ es) [] a h l from to = absurd l
none_hit under e (f ∷ es) (c ∷ cs) a h l from to =
    ap (λ v. byte_of v cs a) (apart_misses under e f c a h.0 l.0 from to) ∙ none_hit under e es cs a h.1 l.1 from to

-- an address of no extent is none of what lies in these
off_hit : (under : ℕ) (es : List (ℕ × ℕ)) (cs : List Content) (a : ℕ) → All (IsOff a) es → Paired LiesAt es cs →
    byte_of under cs a ≡ under
unfolding byte_of
off_hit under [] [] a h l = refl
off_hit under [] (c ∷ cs) a h l = absurd l
off_hit under (f ∷ es) [] a h l = absurd l
off_hit under (f ∷ es) (c ∷ cs) a h l =
    ap (λ v. byte_of v cs a) (off_misses (h 0 f (omega arith)))
    ∙ off_hit under es cs a (λ k d b. h (suc k) d (omega (arith, b))) l.1
  where
    off_misses : IsOff a f → byte_in under c a ≡ under
    off_misses (inl h) = let b = l.0.base in misses under c a (inl (omega arith))
    off_misses (inr h) = let b = l.0.base in let m = l.0.most in misses under c a (inr (omega arith))

apart_at : (e : ℕ × ℕ) (es : List (ℕ × ℕ)) (k : ℕ) (d : ℕ × ℕ) → k < length es → IsApartFrom e es →
    AreApart e (get_or es k d)
apart_at e [] k d h w = absurd (omega arith)
apart_at e (f ∷ es) zero d h w = w.0
apart_at e (f ∷ es) (suc k) d h w = apart_at e es k d (omega arith) w.1

one_hit : (es : List (ℕ × ℕ)) (cs : List Content) (k : ℕ) (e : ℕ × ℕ) (c : Content) (a : ℕ) → AllApart es →
    Paired LiesAt es cs → k < length es → get_or es k e ≡ e → get_or cs k c ≡ c → e.0 ≤ a → a < e.0 + e.1 → c.0 ≡ e.0 →
    byte_of 0 cs a ≡ slice_index c.1 (a - c.0)
unfolding byte_of
one_hit [] cs k e c a w l h q r from to b = absurd (omega arith)
one_hit (f ∷ es) [] k e c a w l h q r from to b = absurd l
one_hit (f ∷ es) (d ∷ cs) zero e c a w l h q r from to b =
    let from' : f.0 ≤ a = subst (λ (v : ℕ × ℕ). v.0 ≤ a) (sym q) from in
    let to' : a < f.0 + f.1 = subst (λ (v : ℕ × ℕ). a < v.0 + v.1) (sym q) to in
    none_hit (byte_in 0 d a) f es cs a w.0 l.1 from' to' ∙ ap (λ v. byte_in 0 v a) r ∙ hits c a (omega arith)
one_hit (f ∷ es) (d ∷ cs) (suc k) e c a w l h q r from to b =
    let g : k < length es = omega arith in
    let o = apart_at f es k e g w.0 in
    let o' : AreApart e f = swap_apart f e (subst (λ v. AreApart f v) q o) in
    ap (λ v. byte_of v cs a) (apart_misses 0 e f d a o' l.0 from to) ∙ one_hit es cs k e c a w.1 l.1 g q r from to b

-- ---- the objects of a program

row_lies : {X : Type 0} (need : X → ObjectNeed) (content : X × ℕ → Content) (xs : List X) (bs : List ℕ) →
    ((x : X) (b : ℕ) → (content (x, b)).0 ≡ b) →
    ((k : ℕ) (x : X) (b : ℕ) → slice_get xs k ≡ Some x → length (content (x, b)).1 ≤ owned_of (need x))
    → Paired LiesAt (placed_at (map need xs) bs) (map content (zip xs bs))
row_lies need content [] bs at most = tt
row_lies need content (x ∷ xs) [] at most = tt
row_lies need content (x ∷ xs) (b ∷ bs) at most =
    (record { base = at x b; most = most 0 x b refl }, row_lies need content xs bs at (λ k y c e. most (suc k) y c e))

placed_length : (ns : List ObjectNeed) (bs : List ℕ) → length bs ≡ length ns → length (placed_at ns bs) ≡ length ns
placed_length [] bs h = refl
placed_length (n ∷ ns) [] h = absurd (omega arith)
placed_length (n ∷ ns) (b ∷ bs) h = ap suc (placed_length ns bs (omega arith))

placed_get : {X : Type 0} (need : X → ObjectNeed) (xs : List X) (bs : List ℕ) (k : ℕ) (x : X) (d : ℕ × ℕ) →
    length bs ≡ length xs → slice_get xs k ≡ Some x →
    get_or (placed_at (map need xs) bs) k d ≡ (get_or bs k 0, owned_of (need x))
placed_get need [] bs k x d e h = absurd cc
placed_get need (y ∷ xs) [] k x d e h = absurd (omega arith)
placed_get need (y ∷ xs) (b ∷ bs) zero x d e h = let s : y ≡ x = cc in ap (λ v. (b, owned_of (need v))) s
placed_get need (y ∷ xs) (b ∷ bs) (suc k) x d e h = placed_get need xs bs k x d (omega arith) h

lowest_of : (base : ℕ) (es : List (ℕ × ℕ)) (k : ℕ) (d : ℕ × ℕ) → k < length es → lowest base es ≤ (get_or es k d).0
unfolding lowest
lowest_of base [] k d h = absurd (omega arith)
lowest_of base (e ∷ es) zero d h = omega (arith, lowest_least (min base e.0) es)
lowest_of base (e ∷ es) (suc k) d h = lowest_of (min base e.0) es k d (omega arith)

highest_of : (end : ℕ) (es : List (ℕ × ℕ)) (k : ℕ) (d : ℕ × ℕ) → k < length es →
    (get_or es k d).0 + (get_or es k d).1 ≤ highest end es
unfolding highest
highest_of end [] k d h = absurd (omega arith)
highest_of end (e ∷ es) zero d h = omega (arith, highest_most (max end (e.0 + e.1)) es)
highest_of end (e ∷ es) (suc k) d h = highest_of (max end (e.0 + e.1)) es k d (omega arith)

module _ (p : Typed) (m : Map) (legal : Legal p m) (w : WellTyped p) (from : ℕ) (all : List ℕ)
    (initial : AreInitial p m from all) where
  extents : List (ℕ × ℕ)
  extents = objects_of (asked_by p) m

  all_lie : Paired LiesAt extents (contents p m)
  unfolding extents
  all_lie =
      join_both LiesAt _ _ _ _ (row_lies (global_need p.types) global_content p.globals m.globals (λ x b. refl)
      (λ k g b e. bytes_fit p w k g e))
      (row_lies literal_need literal_content p.literals m.literals (λ x b. refl)
      (λ k l b e. owned_least (length l.bytes)))

  globals_placed : length (placed_at (map (global_need p.types) p.globals) m.globals) ≡ length p.globals
  globals_placed = let n = length-map p.globals (global_need p.types) in
      placed_length (map (global_need p.types) p.globals) m.globals (globals_length p m legal ∙ sym n) ∙ n

  literals_placed : length (placed_at (map literal_need p.literals) m.literals) ≡ length p.literals
  literals_placed = let n = length-map p.literals literal_need in
      placed_length (map literal_need p.literals) m.literals (literals_length p m legal ∙ sym n) ∙ n

  -- an object among the extents and the contents
  begins : (k base owns : ℕ) (bytes : List ℕ) → k < length extents → get_or extents k (base, owns) ≡ (base, owns) →
      get_or (contents p m) k (base, bytes) ≡ (base, bytes) → BeginsAs from all base owns bytes
  unfolding extents
  begins k base owns bytes h e c =
      let low = lowest_of m.table.0 extents k (base, owns) h in
      let high = highest_of (m.table.0 + m.table.1) extents k (base, owns) h in
      let r = rounded_up_ge (highest (m.table.0 + m.table.1) extents) 16 (omega arith) in
      let x : (get_or extents k (base, owns)).0 ≡ base = ap (λ (v : ℕ × ℕ). v.0) e in
      let y : (get_or extents k (base, owns)).1 ≡ owns = ap (λ (v : ℕ × ℕ). v.1) e in
      let f = initial.from in
      let t = initial.to in
      record {
        above = omega arith;
        below = omega arith;
        each = λ i l.
            let z : from + (base + i - from) ≡ base + i = omega arith in
            let b : base + i - base ≡ i = omega arith in
            initial.each (base + i - from) (omega arith) ∙ ap (byte_of 0 (contents p m)) z
            ∙ one_hit extents (contents p m) k (base, owns) (base, bytes) (base + i) legal.apart.1.1.1.1 all_lie h e c
            (omega arith) (omega arith) refl
            ∙ ap (slice_index bytes) b;
      }

  pub objects_begin : ObjectsBegin p m from all
  unfolding extents
  objects_begin =
      let gp = globals_placed in
      let lp = literals_placed in
      let gl = globals_length p m legal in
      let ll = literals_length p m legal in
      let gc = pairs_length global_content p.globals m.globals gl in
      let n = length-append (placed_at (map (global_need p.types) p.globals) m.globals)
      (placed_at (map literal_need p.literals) m.literals) in
      record {
        from = initial.from;
        to = initial.to;
        between = λ k l off. initial.each k l ∙ off_hit 0 extents (contents p m) (from + k)
            (λ j d b. off (suc j) d (omega (arith, b))) all_lie;
        globals = λ k g e.
            let h = slice_get_within p.globals k g e in
            let b = get_or m.globals k 0 in
            let o = owned_of (global_need p.types g) in
            begins k b o g.bytes (omega arith)
            (get_or_append_left (placed_at (map (global_need p.types) p.globals) m.globals)
            (placed_at (map literal_need p.literals) m.literals) (b, o) k (omega arith)
            ∙ placed_get (global_need p.types) p.globals m.globals k g (b, o) gl e)
            (get_or_append_left (global_contents p m) (literal_contents p m) (b, g.bytes) k (omega arith)
            ∙ pair_at global_content p.globals m.globals k g (b, g.bytes) gl e);
        literals = λ k l e.
            let h = slice_get_within p.literals k l e in
            let b = get_or m.literals k 0 in
            let o = owned_of (literal_need l) in
            begins (length p.globals + k) b o l.bytes (omega arith)
            (ap (λ v. get_or extents (v + k) (b, o)) (sym gp)
            ∙ get_or-append-add (placed_at (map (global_need p.types) p.globals) m.globals)
            (placed_at (map literal_need p.literals) m.literals) k (b, o)
            ∙ placed_get literal_need p.literals m.literals k l (b, o) ll e)
            (ap (λ v. get_or (contents p m) (v + k) (b, l.bytes)) (sym gc)
            ∙ get_or-append-add (global_contents p m) (literal_contents p m) k (b, l.bytes)
            ∙ pair_at literal_content p.literals m.literals k l (b, l.bytes) ll e);
        table =
            let low = lowest_least m.table.0 extents in
            let high = highest_most (m.table.0 + m.table.1) extents in
            let r = rounded_up_ge (highest (m.table.0 + m.table.1) extents) 16 (omega arith) in
            let f = initial.from in
            let t = initial.to in
            record {
              above = omega arith;
              below = omega arith;
              each = λ i l.
                  let z : from + (m.table.0 + i - from) ≡ m.table.0 + i = omega arith in
                  initial.each (m.table.0 + i - from) (omega arith) ∙ ap (byte_of 0 (contents p m)) z
                  ∙ none_hit 0 m.table extents (contents p m) (m.table.0 + i) legal.apart.1.0.1.1 all_lie (omega arith)
                  (omega arith);
            };
      }
