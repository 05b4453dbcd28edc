-- A sound program under a legal map.
use Rattle.std.proofs.Common.{◌≡◌, ℕ, zero, suc, ◌+◌, ◌*◌, ◌%◌, ◌^◌, ◌<◌, ◌≤◌, Bool, true, false, List, [], ◌∷◌, ◌++◌}
use Rattle.std.proofs.Common.{length, get_or, map, Option, Some, None, refl, sym, ap, ◌∙◌, subst, arith}
use Rattle.std.specs.Prelude.{nat_le, slice_get, option_map, if◌then◌else◌}
use Rattle.std.specs.List.{All, zip, flat_map}
use Rattle.std.proofs.lemmas.Bool.Decides.{nat_tests}
use Rattle.std.proofs.lemmas.List.{length-map, length-append, map-append, get_or_append_left, get_or-append-add}
use Rattle.std.proofs.lemmas.List.Elements.{All-append}
use Rattle.std.proofs.lemmas.Option.{slice_get-map, slice_get-get_or, slice_get_within}
use Rattle.cap_concentrate.specs.Rounding.{rounded_up, alignment, owned}
use Rattle.cap_concentrate.proofs.Least.{rounded_up_ge}
use Rattle.cap_concentrate.proofs.Owned.{alignment_pos}
use Rattle.c_tree.specs.declared.typed.Typed.{Typed}
use Rattle.c_tree.specs.declared.typed.CType.{CType}
use Rattle.c_tree.specs.declared.typed.GlobalDef.{GlobalDef}
use Rattle.c_tree.specs.declared.typed.Literal.{Literal}
use Rattle.c_tree.specs.declared.typed.FunDef.{FunDef}
use Rattle.c_tree.specs.declared.typed.Link.{Link}
use Rattle.c_tree.specs.declared.typed.Target.{Target}
use Rattle.c_tree.specs.declared.typed.Target.TheVariants as target
use Rattle.c_tree.specs.Layout.{Extent, extent, size_limit}
use Rattle.c_tree.specs.WellTyped.{WellTyped, LinkFits, OwnsBytes}
use Rattle.obj_mem.specs.declared.map.Map.{Map}
use Rattle.obj_mem.specs.Agreement.{Paired}
use Rattle.obj_mem.specs.Legal.{ObjectNeed, owned_of, placed_at, objects_of}
use Rattle.obj_mem.specs.Needs.{nothing_of, need_by, global_need, literal_need, function_needs, is_const, weight_in}
use Rattle.obj_mem.specs.Needs.{Legal}
use Rattle.obj_mem.specs.Standing.{HaveBounds}
use Rattle.obj_mem.specs.Table.{table_starts, table_length, entry_count, object_base, sentries_from, permissions_of}
use Rattle.obj_mem.specs.Table.{start_at, Holds, WholeHeap}
use Rattle.obj_mem.specs.Values.{Live, Fun}
use Rattle.obj_mem.proofs.Pairs.{join_both}
use Rattle.obj_mem.proofs.Spread.{objects_are_exact_law}
use Rattle.ck_int.specs.Kinds.{kept_of}
use Rattle.cap_ops.specs.Permissions.{data_permissions, const_permissions}
use Rattle.cap_reloc.specs.declared.whole_pointers.Pointer.{Pointer}
use Rattle.cap_reloc.specs.Begins.{asked_by, beginning, links_begun, link_begun, IsRelocation}
use Rattle.cap_reloc.specs.Initial.{lowest, highest}
use Rattle.cap_reloc.specs.Pointers.{global_pointer, literal_pointer, object_pointers, sentry, heap, table_pointers}
use Rattle.cap_reloc.specs.Pointers.{extent_of, entries, entry_of, linked, narrowed, pointer_at, no_pointer, link_reloc}
use Rattle.cap_reloc.specs.Pointers.{link_relocs, stored, LieIn, GlobalsLieIn, LiteralsLieIn}
use Rattle.cap_reloc.proofs.OwnedSizes.{owned_most}
use Rattle.cap_reloc.proofs.Contents.{lowest_at, highest_at}
use Rattle.cap_reloc.proofs.Pairs.{pairs_length, pair_at, pairs_joined, exact_pairs, exact_at, below_all, extents_are}
use Rattle.cap_reloc.proofs.Starts.{Matches, part_matches, row_matches, sentry_matches, sentries_match, heap_matches}
use Rattle.cap_reloc.proofs.Starts.{entries_are, paired_map}

-- ---- permissions

permissions_in : ObjectNeed → ℕ
permissions_in n = n.permissions

either_permissions : (b : Bool) (x y : ObjectNeed) (q : ℕ) → x.permissions ≡ q → y.permissions ≡ q →
    permissions_in (if b then x else y) ≡ q
unfolding permissions_in
either_permissions true x y q e f = e
either_permissions false x y q e f = f

pub need_permissions : (o : Option Extent) (q : ℕ) → (need_by o q).permissions ≡ q
unfolding permissions_in
need_permissions None q = refl
need_permissions (Some x) q =
    either_permissions (nat_le x.size size_limit) (record { length = x.size; align = x.align; permissions = q })
    (nothing_of q) q refl refl

word_small : (b : Bool) → (if b then const_permissions else data_permissions) < 128
word_small true = omega arith
word_small false = omega arith

global_small : (types : List CType) (g : GlobalDef) → (global_need types g).permissions < 128
global_small types g = subst (λ v. v < 128)
    (sym (need_permissions (extent types g.of) (if is_const types g.of then const_permissions else data_permissions)))
    (word_small (is_const types g.of))

literal_small : (l : Literal) → (literal_need l).permissions < 128
literal_small l = omega arith

functions_length : (types : List CType) (weight : ℕ → ℕ) (f : ℕ) (ds : List FunDef) →
    length (function_needs types weight f ds) ≡ length ds
functions_length types weight f [] = refl
functions_length types weight f (d ∷ ds) = ap suc (functions_length types weight (suc f) ds)

-- ---- lengths

pub owned_least : (n : ℕ) → n ≤ owned n
unfolding owned
owned_least n = rounded_up_ge n (alignment n) (alignment_pos n)

base_in : Pointer → ℕ
base_in c = c.base

length_in : Pointer → ℕ
length_in c = c.length

length_of : ObjectNeed → ℕ
length_of n = n.length

need_length : (x : Extent) (q : ℕ) → x.size ≤ size_limit → length_of (need_by (Some x) q) ≡ x.size
unfolding length_of
need_length x q h = let t : nat_le x.size size_limit ≡ true = grind (arith, nat_tests) in
    ap (λ b. length_of (if b then record { length = x.size; align = x.align; permissions = q } else nothing_of q)) t

pub size_is : (p : Typed) (w : WellTyped p) (k : ℕ) (g : GlobalDef) (e : slice_get p.globals k ≡ Some g) →
    (global_need p.types g).length ≡ (w.globals k g e).extent.size
unfolding length_of
size_is p w k g e =
    let f = w.globals k g e in
    let q = (if is_const p.types g.of then const_permissions else data_permissions) in
    ap (λ o. length_of (need_by o q)) f.own ∙ need_length f.extent q f.complete.within

pub bytes_fit : (p : Typed) → WellTyped p → (k : ℕ) (g : GlobalDef) → slice_get p.globals k ≡ Some g →
    length g.bytes ≤ owned_of (global_need p.types g)
bytes_fit p w k g e =
    let f = w.globals k g e in
    let b = f.bytes in
    omega (arith, size_is p w k g e, owned_least (global_need p.types g).length)

-- ---- the pointers of the table

module _ (p : Typed) (m : Map) (legal : Legal p m) where
  exact : HaveBounds (asked_by p).globals m.globals × HaveBounds (asked_by p).literals m.literals
  exact = objects_are_exact_law (weight_in p) p m legal

  pub globals_length : length m.globals ≡ length p.globals
  globals_length = exact_pairs (global_need p.types) p.globals m.globals exact.0

  pub literals_length : length m.literals ≡ length p.literals
  literals_length = exact_pairs literal_need p.literals m.literals exact.1

  pub functions_count : length m.entries ≡ length p.funs
  functions_count = legal.entries ∙ functions_length p.types (weight_in p) 0 p.funs

  pub objects_below : All (λ (c : Pointer). c.base + c.length ≤ 2 ^ 40) (object_pointers p m)
  unfolding object_pointers
  objects_below =
      All-append (λ (c : Pointer). c.base + c.length ≤ 2 ^ 40) (map (global_pointer p.types) (zip p.globals m.globals))
      (map literal_pointer (zip p.literals m.literals))
      (below_all (global_need p.types) p.globals m.globals exact.0)
      (below_all literal_need p.literals m.literals exact.1)

  -- their entries
  pub global_object : (k : ℕ) (g : GlobalDef) (d : Pointer) → slice_get p.globals k ≡ Some g →
      get_or (object_pointers p m) k d ≡ global_pointer p.types (g, get_or m.globals k 0)
  unfolding object_pointers
  global_object k g d e =
      let l = pairs_length (global_pointer p.types) p.globals m.globals globals_length in
      let w = slice_get_within p.globals k g e in
      get_or_append_left (map (global_pointer p.types) (zip p.globals m.globals))
      (map literal_pointer (zip p.literals m.literals)) d k (omega arith)
      ∙ pair_at (global_pointer p.types) p.globals m.globals k g d globals_length e

  pub literal_object : (k : ℕ) (l : Literal) (d : Pointer) → slice_get p.literals k ≡ Some l →
      get_or (object_pointers p m) (length p.globals + k) d ≡ literal_pointer (l, get_or m.literals k 0)
  unfolding object_pointers
  literal_object k l d e =
      let n = pairs_length (global_pointer p.types) p.globals m.globals globals_length in
      ap (λ v. get_or (object_pointers p m) (v + k) d) (sym n)
      ∙ get_or-append-add (map (global_pointer p.types) (zip p.globals m.globals))
      (map literal_pointer (zip p.literals m.literals)) k d
      ∙ pair_at literal_pointer p.literals m.literals k l d literals_length e

  pub objects_length : length (object_pointers p m) ≡ length p.globals + length p.literals
  unfolding object_pointers
  objects_length =
      let g = pairs_length (global_pointer p.types) p.globals m.globals globals_length in
      let l = pairs_length literal_pointer p.literals m.literals literals_length in
      omega (
        arith,
        length-append (map (global_pointer p.types) (zip p.globals m.globals))
            (map literal_pointer (zip p.literals m.literals)),
      )

  pub front_at : (k : ℕ) (d : Pointer) → k < length (object_pointers p m) →
      get_or (table_pointers p m) k d ≡ get_or (object_pointers p m) k d
  unfolding table_pointers
  front_at k d h =
      let l = length-append (object_pointers p m) (map (sentry m) m.entries) in
      get_or_append_left (object_pointers p m ++ map (sentry m) m.entries) (heap m ∷ []) d k (omega arith)
      ∙ get_or_append_left (object_pointers p m) (map (sentry m) m.entries) d k h

  pub table_count : length (table_pointers p m) ≡ length p.globals + length p.literals + length p.funs + 1
  unfolding table_pointers
  table_count =
      let a = length-append (object_pointers p m ++ map (sentry m) m.entries) (heap m ∷ []) in
      let b = length-append (object_pointers p m) (map (sentry m) m.entries) in
      let c = length-map m.entries (sentry m) in
      omega (arith, objects_length, functions_count)

  map_at : (es : List ℕ) (f : ℕ) (d : Pointer) → f < length es →
      get_or (map (sentry m) es) f d ≡ sentry m (get_or es f 0)
  map_at [] f d h = absurd (omega arith)
  map_at (e ∷ es) zero d h = refl
  map_at (e ∷ es) (suc f) d h = map_at es f d (omega arith)

  pub function_at : (f : ℕ) (d : Pointer) → f < length p.funs →
      get_or (table_pointers p m) (length p.globals + length p.literals + f) d ≡ sentry m (get_or m.entries f 0)
  unfolding table_pointers
  function_at f d h =
      let o = objects_length in
      let c = functions_count in
      let b = length-append (object_pointers p m) (map (sentry m) m.entries) in
      let n = length-map m.entries (sentry m) in
      get_or_append_left (object_pointers p m ++ map (sentry m) m.entries) (heap m ∷ []) d
      (length p.globals + length p.literals + f) (omega arith)
      ∙ ap (λ v. get_or (object_pointers p m ++ map (sentry m) m.entries) (v + f) d) (sym o)
      ∙ get_or-append-add (object_pointers p m) (map (sentry m) m.entries) f d ∙ map_at m.entries f d (omega arith)

  -- ---- what they store

  global_base : (k : ℕ) → k < length m.globals → object_base m (0 + k) ≡ get_or m.globals k 0
  global_base k h = let z : 0 + k ≡ k = omega arith in
      ap (object_base m) z ∙ get_or_append_left m.globals m.literals 0 k h

  literal_base : (k : ℕ) → k < length m.literals →
      object_base m (length (asked_by p).globals + k) ≡ get_or m.literals k 0
  literal_base k h =
      let e : length (asked_by p).globals ≡ length m.globals =
      length-map p.globals (global_need p.types) ∙ sym globals_length in
      ap (λ v. object_base m (v + k)) e ∙ get_or-append-add m.globals m.literals k 0

  entry_from : (f : ℕ) → f < length m.entries → m.text.0 ≤ get_or m.entries f 0
  entry_from f h = (legal.in_text f (get_or m.entries f 0) (slice_get-get_or m.entries f 0 h)).from

  entry_below : (f : ℕ) → f < length m.entries → get_or m.entries f 0 < 2 ^ 64
  entry_below f h =
      let b = (legal.in_text f (get_or m.entries f 0) (slice_get-get_or m.entries f 0 h)).below in
      let r = legal.in_range.1 in omega arith

  pub table_matches : Paired (Matches m) (table_starts (asked_by p)) (table_pointers p m)
  unfolding table_pointers object_pointers
  table_matches =
      let r = legal.in_range.2.2.1 in
      let n = asked_by p in
      let gs = row_matches m (global_need p.types) 0 p.globals m.globals exact.0 (global_small p.types) global_base in
      let ls = row_matches m literal_need (length n.globals) p.literals m.literals exact.1 literal_small literal_base in
      let at_entry : (k : ℕ) → k < length m.entries → get_or m.entries (0 + k) 0 ≡ get_or m.entries k 0 = λ k l.
      let z : 0 + k ≡ k = omega arith in ap (λ v. get_or m.entries v 0) z in
      let es = subst (λ v. Paired (Matches m) (sentries_from v 0) (map (sentry m) m.entries)) legal.entries
      (sentries_match m 0 m.entries at_entry entry_from entry_below) in
      let h = heap_matches m (omega arith) in
      join_both (Matches m) _ _ (WholeHeap ∷ []) (heap m ∷ [])
      (join_both (Matches m) _ _ (sentries_from (length n.functions) 0) (map (sentry m) m.entries)
      (join_both (Matches m) _ _ _ _ gs ls) es) (h, tt)

  -- ---- links

  pub is_there : (l : Link) (size : ℕ) → LinkFits p size l → entry_of p l.target < length (table_pointers p m)
  is_there l size w = by_target l.target w.target w.owns where
    by_target : (t : Target) (n : ℕ) → OwnsBytes p t n → entry_of p t < length (table_pointers p m)
    by_target (target.Global k) n (g, x, e, h, is) =
        let w = slice_get_within p.globals k g e in omega (arith, table_count)
    by_target (target.Literal k) n (l, e, is) = let w = slice_get_within p.literals k l e in omega (arith, table_count)
    by_target (target.Fun k) n (lt, is) = omega (arith, table_count)

  target_matches : (l : Link) (t : Target) (n : ℕ) → OwnsBytes p t n → l.low + l.length ≤ n →
      Matches m (start_at (asked_by p) l t) (linked (pointer_at (table_pointers p m) (entry_of p t)) l t)
  target_matches l (target.Global k) n (g, x, e, h, is) b =
      let w = slice_get_within p.globals k g e in
      let o = objects_length in
      let q = front_at k no_pointer (omega arith) ∙ global_object k g no_pointer e in
      let a = exact_at (global_need p.types) p.globals m.globals k g exact.0 e in
      let to = a.based.to in
      let most = owned_most x.size (omega (arith, h.within)) in
      let limit = h.within in
      let c = globals_length in
      let s : slice_get (map (global_need p.types) p.globals) k ≡ Some (global_need p.types g) =
      slice_get-map (global_need p.types) p.globals k ∙ ap (option_map (global_need p.types)) e in
      let pm : permissions_of (slice_get (map (global_need p.types) p.globals) k)
      ≡ (global_need p.types g).permissions = ap permissions_of s in
      let r = part_matches m k (get_or m.globals k 0) l.low l.length (kept_of l.offset)
      (global_need p.types g).permissions (get_or_append_left m.globals m.literals 0 k (omega arith))
      (omega arith) (global_small p.types g) in
      subst (λ v. Matches m (start_at (asked_by p) l (target.Global k)) (narrowed v l)) (sym q)
      (subst (λ v. Matches m (Holds (Live k l.low (l.low + l.length) (kept_of l.offset) v))
      (narrowed (global_pointer p.types (g, get_or m.globals k 0)) l)) (sym pm) r)
  target_matches l (target.Literal k) n (s, e, is) b =
      let w = slice_get_within p.literals k s e in
      let o = objects_length in
      let q = front_at (length p.globals + k) no_pointer (omega arith) ∙ literal_object k s no_pointer e in
      let a = exact_at literal_need p.literals m.literals k s exact.1 e in
      let to = a.based.to in
      let c = literals_length in
      let r = part_matches m (length (asked_by p).globals + k) (get_or m.literals k 0) l.low l.length
      (kept_of l.offset) const_permissions (literal_base k (omega arith)) (omega arith) (omega arith) in
      subst (λ v. Matches m (start_at (asked_by p) l (target.Literal k)) (narrowed v l)) (sym q) r
  target_matches l (target.Fun f) n (lt, is) b =
      let c = functions_count in
      subst (λ v. Matches m (Holds (Fun f)) v) (sym (function_at f no_pointer lt))
      (sentry_matches m f (get_or m.entries f 0) refl (entry_from f (omega arith)) (entry_below f (omega arith)))

  link_is : (base size : ℕ) (l : Link) → base + size < 2 ^ 64 → LinkFits p size l →
      IsRelocation m (link_begun (asked_by p) base l) (link_reloc p (table_pointers p m) base l)
  link_is base size l h w =
      let i = w.inside in
      let t = target_matches l l.target w.target w.owns w.bounds in
      let z : (base + l.at) % 2 ^ 64 ≡ base + l.at = omega arith in
      let c = linked (pointer_at (table_pointers p m) (entry_of p l.target)) l l.target in
      record { is = ap (λ v. stored v c) z ∙ t.is (base + l.at); capability = t.capability }

  links_are : (base size : ℕ) (g : GlobalDef) → base + size < 2 ^ 64 →
      ((k : ℕ) (l : Link) → slice_get g.links k ≡ Some l → LinkFits p size l)
      → Paired (IsRelocation m) (links_begun (asked_by p) (g, base)) (link_relocs p (table_pointers p m) (g, base))
  links_are base size g h w =
      paired_map (IsRelocation m) (link_begun (asked_by p) base) (link_reloc p (table_pointers p m) base) g.links
      (λ k l e. link_is base size l h (w k l e))

  pub relocations_are : WellTyped p →
      Paired (IsRelocation m) (beginning p m) (entries m.table.0 (table_pointers p m)
      ++ flat_map (link_relocs p (table_pointers p m)) (zip p.globals m.globals))
  relocations_are w =
      join_both (IsRelocation m) _ _ _ _ (entries_are m m.table.0 (table_starts (asked_by p))
      (table_pointers p m) table_matches)
      (pairs_joined (IsRelocation m) (links_begun (asked_by p)) (link_relocs p (table_pointers p m)) p.globals m.globals
      (λ k g e l. let f = w.globals k g e in
      let a = exact_at (global_need p.types) p.globals m.globals k g exact.0 e in
      let to = a.based.to in
      let s = f.complete.within in links_are (get_or m.globals k 0) f.extent.size g (omega arith) f.links))

  pub all_there : WellTyped p →
      All (λ (g : GlobalDef). All (λ (l : Link). entry_of p l.target < length (table_pointers p m)) g.links) p.globals
  all_there w k d h j e i =
      let g = get_or p.globals k d in
      let f = w.globals k g (slice_get-get_or p.globals k d h) in
      let l = get_or g.links j e in
      is_there l f.extent.size (f.links j l (slice_get-get_or g.links j e i))

  -- ---- bytes

  pub few : m.table.1 ≡ table_length (asked_by p) → length p.globals + length p.literals ≤ 2 ^ 40
  few e =
      let n = asked_by p in
      let r = legal.in_range.2.1 in
      let u = owned_least (16 * entry_count n) in
      let a = length-map p.globals (global_need p.types) in
      let b = length-map p.literals literal_need in
      omega arith

  pub all_extents : map extent_of (object_pointers p m) ≡ objects_of (asked_by p) m
  unfolding object_pointers
  all_extents =
      let gs = map (global_pointer p.types) (zip p.globals m.globals) in
      let ls = map literal_pointer (zip p.literals m.literals) in
      map-append extent_of gs ls
      ∙ ap (λ v. v ++ map extent_of ls) (extents_are (global_need p.types) p.globals m.globals)
      ∙ ap (λ v. placed_at (map (global_need p.types) p.globals) m.globals ++ v)
      (extents_are literal_need p.literals m.literals)

  module _ (base size : ℕ) (low : base ≡ lowest m.table.0 (map extent_of (object_pointers p m)))
      (to : base + size ≡ rounded_up (highest (m.table.0 + m.table.1) (map extent_of (object_pointers p m))) 16) where
    lies : (k count : ℕ) (c : Pointer) → k < length (object_pointers p m) →
        get_or (object_pointers p m) k no_pointer ≡ c → count ≤ c.length → LieIn base size c.base count
    unfolding base_in length_in
    lies k count c h e most =
        let a = lowest_at m.table.0 (object_pointers p m) k no_pointer h in
        let b = highest_at (m.table.0 + m.table.1) (object_pointers p m) k no_pointer h in
        let r = rounded_up_ge (highest (m.table.0 + m.table.1) (map extent_of (object_pointers p m))) 16
        (omega arith) in
        let x : (get_or (object_pointers p m) k no_pointer).base ≡ c.base = ap base_in e in
        let y : (get_or (object_pointers p m) k no_pointer).length ≡ c.length = ap length_in e in
        record { above = omega arith; below = omega arith }

    pub globals_lie : WellTyped p → GlobalsLieIn base size p.globals m.globals
    globals_lie w k d h =
        let g = get_or p.globals k d in
        let e : slice_get p.globals k ≡ Some g = slice_get-get_or p.globals k d h in
        let o = objects_length in
        lies k (length g.bytes) (global_pointer p.types (g, get_or m.globals k 0)) (omega arith)
        (global_object k g no_pointer e) (bytes_fit p w k g e)

    pub literals_lie : LiteralsLieIn base size p.literals m.literals
    literals_lie k d h =
        let l = get_or p.literals k d in
        let e : slice_get p.literals k ≡ Some l = slice_get-get_or p.literals k d h in
        let o = objects_length in
        lies (length p.globals + k) (length l.bytes) (literal_pointer (l, get_or m.literals k 0)) (omega arith)
        (literal_object k l no_pointer e) (owned_least (length l.bytes))
