-- Each relocation of a sound program under a legal map can be stored, and points to an entry or off the text.
use Rattle.std.proofs.Common.{◌≡◌, ℕ, zero, suc, ◌+◌, ◌-◌, ◌%◌, ◌^◌, ◌<◌, ◌≤◌, Bool, true, false, List, [], ◌∷◌, ◌++◌}
use Rattle.std.proofs.Common.{length, get_or, map, Option, Some, None, refl, sym, ap, ◌∙◌, subst, arith, inl, inr}
use Rattle.std.specs.Prelude.{slice_get, if◌then◌else◌}
use Rattle.std.specs.List.{All, zip, flat_map}
use Rattle.std.proofs.lemmas.Bool.{cases_lt, and_parts, eqb-true}
use Rattle.std.proofs.lemmas.List.Elements.{All-nil, All-cons, All-head, All-tail, All-append}
use Rattle.std.proofs.lemmas.Option.{slice_get_within, slice_get-get_or}
use Rattle.ck_int.specs.Kinds.{kept_of}
use Rattle.cap_concentrate.specs.Rounding.{Encodable, owned}
use Rattle.cap_concentrate.proofs.Laws.{encodable_of_least}
use Rattle.cap_concentrate.proofs.Owned.{owned_encodable}
use Rattle.cap_ops.specs.Permissions.{data_permissions, const_permissions}
use Rattle.c_tree.specs.declared.typed.Typed.{Typed}
use Rattle.c_tree.specs.declared.typed.CType.{CType}
use Rattle.c_tree.specs.declared.typed.GlobalDef.{GlobalDef}
use Rattle.c_tree.specs.declared.typed.Link.{Link}
use Rattle.c_tree.specs.declared.typed.Target.{Target}
use Rattle.c_tree.specs.declared.typed.Target.TheVariants as target
use Rattle.c_tree.specs.Layout.{Extent, extent, extent_within, extent_of}
use Rattle.c_tree.specs.Statics.{is_exact, is_near}
use Rattle.c_tree.specs.Terms.{Program}
use Rattle.c_tree.specs.TreeLayout.{tree_extent}
use Rattle.c_tree.specs.Views.{Shows}
use Rattle.c_tree.specs.WellTyped.{WellTyped, OwnsBytes, HasExtent, type_in}
use Rattle.c_tree.proofs.ViewLayout.{extent_is}
use Rattle.elf_file.specs.declared.image.Reloc.{Reloc}
use Rattle.obj_mem.specs.declared.map.Map.{Map}
use Rattle.obj_mem.specs.Legal.{ObjectNeed, AreApart, IsApartFrom, IsEntry, owned_of, placed_at}
use Rattle.obj_mem.specs.Needs.{global_need, literal_need, is_const, weight_in, Legal}
use Rattle.obj_mem.specs.Standing.{HasBounds, HaveBounds}
use Rattle.obj_mem.proofs.Fitting.{part_encodable}
use Rattle.obj_mem.proofs.Spread.{objects_are_exact_law}
use Rattle.cap_reloc.specs.declared.whole_pointers.Pointer.{Pointer}
use Rattle.cap_reloc.specs.Begins.{asked_by}
use Rattle.cap_reloc.specs.Pointers.{whole, global_pointer, literal_pointer, object_pointers, sentry, heap}
use Rattle.cap_reloc.specs.Pointers.{table_pointers, entries, entry_of, linked, narrowed, pointer_at, no_pointer}
use Rattle.cap_reloc.specs.Pointers.{link_reloc, link_relocs, stored}
use Rattle.cap_reloc.specs.Stored.{IsDataWord, IsPointer}
use Rattle.cap_reloc.proofs.Fitted.{encodable_fit, near_address}
use Rattle.cap_reloc.proofs.Inside.{all_map, all_pairs}
use Rattle.cap_reloc.proofs.Pairs.{exact_at}
use Rattle.cap_reloc.proofs.Under.{need_permissions, size_is, objects_length, functions_count, globals_length}
use Rattle.cap_reloc.proofs.Under.{literals_length, front_at, global_object, literal_object, function_at}

-- ---- pointers at any place

abbrev Points : Map → Pointer → Type 0
Points m c = IsPointer m (stored 0 c)

at_place : (m : Map) (place : ℕ) (c : Pointer) → Points m c → IsPointer m (stored place c)
at_place m place c h = record {
  storable = record {
    exact = h.storable.exact;
    from = h.storable.from;
    to = h.storable.to;
    above = h.storable.above;
    below = h.storable.below;
  };
  kind = elim h.kind [
    | inl s ↦
        inl (record {
          word = s.word;
          base = s.base;
          length = s.length;
          entry = s.entry;
          function = s.function;
          entered = s.entered;
        })
    | inr d ↦ inr (record { word = d.word; apart = d.apart })
  ];
}

all_entries : (m : Map) (place : ℕ) (cs : List Pointer) → All (Points m) cs → All (IsPointer m) (entries place cs)
unfolding entries
all_entries m place [] h = All-nil (IsPointer m)
all_entries m place (c ∷ cs) h =
    All-cons (IsPointer m) (stored place c) (entries (place + 16) cs) (at_place m place c (All-head (Points m) c cs h))
    (all_entries m (place + 16) cs (All-tail (Points m) c cs h))

-- ---- permissions

word_by : (b : Bool) → IsDataWord (if b then const_permissions else data_permissions)
word_by true = inr refl
word_by false = inl refl

global_word : (types : List CType) (g : GlobalDef) → IsDataWord (global_need types g).permissions
global_word types g =
    let word = (if is_const types g.of then const_permissions else data_permissions) in
    subst IsDataWord (sym (need_permissions (extent types g.of) word)) (word_by (is_const types g.of))

-- ---- off the text

turned : (a b : ℕ × ℕ) → AreApart a b → AreApart b a
turned a b (inl h) = inr h
turned a b (inr h) = inl h

part_apart : (base owns low n : ℕ) (text : ℕ × ℕ) → low + n ≤ owns → AreApart text (base, owns)
    → AreApart (base + low, n) text
part_apart base owns low n text fits (inl h) = inr (omega arith)
part_apart base owns low n text fits (inr h) = inl (omega arith)

apart_first : (a : ℕ × ℕ) (xs ys : List (ℕ × ℕ)) → IsApartFrom a (xs ++ ys) → IsApartFrom a xs
apart_first a [] ys h = tt
apart_first a (x ∷ xs) ys h = (h.0, apart_first a xs ys h.1)

apart_last : (a : ℕ × ℕ) (xs ys : List (ℕ × ℕ)) → IsApartFrom a (xs ++ ys) → IsApartFrom a ys
apart_last a [] ys h = h
apart_last a (x ∷ xs) ys h = apart_last a xs ys h.1

apart_at : {X : Type 0} (need : X → ObjectNeed) (a : ℕ × ℕ) (xs : List X) (bs : List ℕ) (k : ℕ) (x : X)
    → IsApartFrom a (placed_at (map need xs) bs) → length bs ≡ length xs → slice_get xs k ≡ Some x
    → AreApart a (get_or bs k 0, owned_of (need x))
apart_at need a [] bs k x h n e = absurd cc
apart_at need a (y ∷ xs) [] k x h n e = absurd (omega (arith, n))
apart_at need a (y ∷ xs) (b ∷ bs) zero x h n e =
    let s : y ≡ x = cc in subst (λ v. AreApart a (b, owned_of (need v))) s h.0
apart_at need a (y ∷ xs) (b ∷ bs) (suc k) x h n e = apart_at need a xs bs k x h.1 (omega (arith, n)) e

-- ---- whole objects and their parts

whole_points : (m : Map) (n : ObjectNeed) (base : ℕ) → HasBounds n base → AreApart m.text (base, owned_of n)
    → IsDataWord n.permissions → Points m (whole n base)
whole_points m n base x off word =
    let b = x.based in
    let to = b.to in
    record {
      storable = record {
        exact = owned_encodable base n.length (omega arith) b.aligned;
        from = b.from;
        to = to;
        above = omega arith;
        below = omega arith;
      };
      kind = inr (record { word = word; apart = turned m.text (base, owned_of n) off });
    }

part_points : (m : Map) (n : ObjectNeed) (base : ℕ) (l : Link) (word : ℕ) → HasBounds n base
    → AreApart m.text (base, owned_of n) → IsDataWord word → l.low + l.length ≤ owned_of n
    → is_exact l.low l.length ≡ true → is_near l.low l.length l.offset ≡ true
    → Points m (narrowed (record { base = base; offset = 0; length = owned_of n; perms = word }) l)
part_points m n base l word x off is_word fits exact near =
    let b = x.based in
    let from = b.from in
    let to = b.to in
    let e = and_parts _ _ exact in
    let least =
    encodable_of_least l.low (l.low + l.length) (omega arith) (omega arith) (eqb-true _ _ e.0) (eqb-true _ _ e.1) in
    let own = encodable_fit l.low l.length (omega arith) least in
    let enc : Encodable (base + l.low) (base + l.low + l.length) =
    part_encodable base (owned_of n) n.length b l.low l.length fits own.whole own.multiple in
    let is : base + l.low ≡ (base + l.low) % 2 ^ 64 = omega arith in
    let q = near_address base l.low l.length l.offset from (omega arith) near in
    let above = q.above in
    let below = q.below in
    let to_offset = (kept_of l.offset + 2 ^ 64 - l.low) % 2 ^ 64 in
    let at : ((base + l.low) % 2 ^ 64 + to_offset) % 2 ^ 64 ≡ (base + kept_of l.offset) % 2 ^ 64 = omega arith in
    let apart = part_apart base (owned_of n) l.low l.length m.text fits off in
    record {
      storable = record {
        exact = subst (λ v. Encodable v (v + l.length)) is enc;
        from = omega arith;
        to = omega arith;
        above = omega arith;
        below = omega arith;
      };
      kind = inr (record { word = is_word; apart = subst (λ v. AreApart (v, l.length) m.text) is apart });
    }

all_whole : {X : Type 0} (m : Map) (need : X → ObjectNeed) (xs : List X) (bs : List ℕ) → HaveBounds (map need xs) bs
    → IsApartFrom m.text (placed_at (map need xs) bs) → ((x : X) → IsDataWord (need x).permissions)
    → All (Points m) (map (λ (x : X × ℕ). whole (need x.0) x.1) (zip xs bs))
all_whole m need [] bs h off w k d l = absurd (omega arith)
all_whole m need (x ∷ xs) [] h off w k d l = absurd h
all_whole m need (x ∷ xs) (b ∷ bs) h off w zero d l = whole_points m (need x) b h.0 off.0 (w x)
all_whole m need (x ∷ xs) (b ∷ bs) h off w (suc k) d l = all_whole m need xs bs h.1 off.1 w k d (omega arith)

-- ---- the heap

heap_encodable : (base size : ℕ) → base % 65536 ≡ 0 → size % 65536 ≡ 0 → size ≤ 67108864
    → (16777216 < size → base % 131072 ≡ 0) → base + size ≤ 2 ^ 40 → Encodable base (base + size)
heap_encodable base size a b most large to =
    elim (cases_lt size 67108864) as (λ _. Encodable base (base + size)) [
      | inl less ↦
          record {
            ordered = omega arith;
            within = omega arith;
            form = inr (
              13,
              record { within = omega arith; base_multiple = a; top_multiple = omega arith; short = omega arith },
            );
          }
      | inr greatest ↦
          let wide = large (omega arith) in
          record {
            ordered = omega arith;
            within = omega arith;
            form = inr (
              14,
              record { within = omega arith; base_multiple = wide; top_multiple = omega arith; short = omega arith },
            );
          }
    ]

-- ---- a type's extent, whatever its number

below_by : (d : ℕ) (types : List CType) (t : ℕ) (x : Extent) → extent_within d types t ≡ Some x → t < length types
unfolding extent_within
below_by zero types t x e = absurd cc
below_by (suc d) types t x e = by (slice_get types t) refl e
  where
    by : (o : Option CType) → slice_get types t ≡ o → extent_of o (extent_within d types) ≡ Some x → t < length types
    by None q f = absurd cc
    by (Some c) q f = slice_get_within types t c q

-- ---- of a program

module _ (p : Typed) (q : Program) (shows : Shows p q) (w : WellTyped p) (m : Map) (legal : Legal p m) where
  exact : HaveBounds (asked_by p).globals m.globals × HaveBounds (asked_by p).literals m.literals
  exact = objects_are_exact_law (weight_in p) p m legal

  abbrev placed_globals : List (ℕ × ℕ)
  placed_globals = placed_at (asked_by p).globals m.globals

  abbrev placed_literals : List (ℕ × ℕ)
  placed_literals = placed_at (asked_by p).literals m.literals

  globals_off : IsApartFrom m.text placed_globals
  globals_off = apart_first m.text placed_globals placed_literals legal.apart.0.1.1.1

  literals_off : IsApartFrom m.text placed_literals
  literals_off = apart_last m.text placed_globals placed_literals legal.apart.0.1.1.1

  -- a global owns the bytes of its type's extent
  owned_is : (k : ℕ) (g : GlobalDef) (x : Extent) → slice_get p.globals k ≡ Some g → HasExtent p (type_in p g.of) x
      → owned x.size ≡ owned_of (global_need p.types g)
  owned_is k g x e h =
      let f = w.globals k g e in
      let there = below_by (length p.types) p.types g.of f.extent f.own in
      let view = extent_is p q w.ordered shows 0 in
      let same : Some x ≡ Some f.extent =
      sym h.extent_is ∙ view h.number h.there ∙ ap (tree_extent (length p.types + 0) q.tags) h.is
      ∙ sym (view g.of there) ∙ f.own in
      let is : x ≡ f.extent = cc in
      ap (λ (y : Extent). owned y.size) is ∙ ap owned (sym (size_is p w k g e))

  -- ---- the table

  objects_point : All (Points m) (object_pointers p m)
  unfolding object_pointers
  objects_point =
      All-append (Points m) (map (global_pointer p.types) (zip p.globals m.globals))
      (map literal_pointer (zip p.literals m.literals))
      (all_whole m (global_need p.types) p.globals m.globals exact.0 globals_off (global_word p.types))
      (all_whole m literal_need p.literals m.literals exact.1 literals_off (λ l. inr refl))

  sentry_points : (f entry : ℕ) → slice_get m.entries f ≡ Some entry → Points m (sentry m entry)
  sentry_points f entry e =
      let i = legal.in_text f entry e in
      let from = i.from in
      let below = i.below in
      let low = legal.in_range.0 in
      let high = legal.in_range.1 in
      let at : entry ≡ (m.text.0 + (entry + 2 ^ 64 - m.text.0) % 2 ^ 64) % 2 ^ 64 = omega arith in
      record {
        storable = record { exact = legal.text_exact; from = low; to = high; above = omega arith; below = omega arith };
        kind = inl (record {
          word = refl;
          base = refl;
          length = refl;
          entry = subst (IsEntry m.text) at i;
          function = f;
          entered = e ∙ ap Some at;
        });
      }

  heap_points : Points m (heap m)
  heap_points =
      let low = legal.in_range.2.2.0 in
      let high = legal.in_range.2.2.1 in
      let exact =
      heap_encodable m.heap.0 m.heap.1 legal.heap_base legal.heap_length legal.heap_most legal.large_heap high in
      record {
        storable = record { exact = exact; from = low; to = high; above = omega arith; below = omega arith };
        kind = inr (record { word = inl refl; apart = turned m.text m.heap legal.apart.0.1.0 });
      }

  table_points : All (Points m) (table_pointers p m)
  unfolding table_pointers
  table_points =
      All-append (Points m) (object_pointers p m ++ map (sentry m) m.entries) (heap m ∷ [])
      (All-append (Points m) (object_pointers p m) (map (sentry m) m.entries) objects_point
      (all_map (Points m) (sentry m) m.entries sentry_points))
      (All-cons (Points m) (heap m) [] heap_points (All-nil (Points m)))

  -- ---- the links

  target_points : (l : Link) (t : Target) (n : ℕ) → OwnsBytes p t n → l.low + l.length ≤ n
      → is_exact l.low l.length ≡ true → is_near l.low l.length l.offset ≡ true
      → Points m (linked (pointer_at (table_pointers p m) (entry_of p t)) l t)
  target_points l (target.Global k) n (g, x, e, h, is) fits exactly near =
      let lt = slice_get_within p.globals k g e in
      let there = objects_length p m legal in
      let c = front_at p m legal k no_pointer (omega arith) ∙ global_object p m legal k g no_pointer e in
      let a = exact_at (global_need p.types) p.globals m.globals k g exact.0 e in
      let off = apart_at (global_need p.types) m.text p.globals m.globals k g globals_off
      (globals_length p m legal) e in
      let n = global_need p.types g in
      let inside : l.low + l.length ≤ owned_of n = omega (arith, is, owned_is k g x e h) in
      subst (λ v. Points m (narrowed v l)) (sym c)
      (part_points m n (get_or m.globals k 0) l n.permissions a off (global_word p.types g) inside exactly near)
  target_points l (target.Literal k) n (s, e, is) fits exactly near =
      let lt = slice_get_within p.literals k s e in
      let there = objects_length p m legal in
      let c =
      front_at p m legal (length p.globals + k) no_pointer (omega arith) ∙ literal_object p m legal k s no_pointer e in
      let a = exact_at literal_need p.literals m.literals k s exact.1 e in
      let off = apart_at literal_need m.text p.literals m.literals k s literals_off (literals_length p m legal) e in
      let inside : l.low + l.length ≤ owned_of (literal_need s) = omega (arith, is) in
      subst (λ v. Points m (narrowed v l)) (sym c)
      (part_points m (literal_need s) (get_or m.literals k 0) l const_permissions a off (inr refl) inside exactly near)
  target_points l (target.Fun f) n (lt, is) fits exactly near =
      let c = functions_count p m legal in
      subst (Points m) (sym (function_at p m legal f no_pointer lt))
      (sentry_points f (get_or m.entries f 0) (slice_get-get_or m.entries f 0 (omega (arith, c))))

  links_point : (k : ℕ) (g : GlobalDef) → slice_get p.globals k ≡ Some g
      → All (IsPointer m) (link_relocs p (table_pointers p m) (g, get_or m.globals k 0))
  links_point k g e =
      all_map (IsPointer m) (link_reloc p (table_pointers p m) (get_or m.globals k 0)) g.links
      (λ j l i.
      let f = (w.globals k g e).links j l i in
      at_place m ((get_or m.globals k 0 + l.at) % 2 ^ 64)
      (linked (pointer_at (table_pointers p m) (entry_of p l.target)) l l.target)
      (target_points l l.target f.target f.owns f.bounds f.exact f.near))

  abbrev table_relocs : List Reloc
  table_relocs = entries m.table.0 (table_pointers p m)

  abbrev all_links : List Reloc
  all_links = flat_map (link_relocs p (table_pointers p m)) (zip p.globals m.globals)

  pub all_point : All (IsPointer m) (table_relocs ++ all_links)
  all_point =
      All-append (IsPointer m) table_relocs all_links (all_entries m m.table.0 (table_pointers p m) table_points)
      (all_pairs (IsPointer m) (link_relocs p (table_pointers p m)) p.globals m.globals links_point)
