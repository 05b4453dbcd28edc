-- Pointers to objects and functions: what they are in the meaning, the machine makes of the stack's capability or
-- reads from the table.
use Rattle.std.proofs.Common.{◌≡◌, ℕ, zero, suc, ◌+◌, ◌-◌, ◌*◌, ◌%◌, ◌^◌, ◌<◌, ◌≤◌, Bool, true, false, List, []}
use Rattle.std.proofs.Common.{◌∷◌, ◌++◌, length, Option, Some, None, refl, sym, ap, ◌∙◌, subst, arith, inl}
use Rattle.std.proofs.Common.{if◌then◌else◌}
use Rattle.std.specs.Prelude.{slice_get, slice_set, nat_lt, get_or}
use Rattle.std.specs.List.{filter}
use Rattle.std.specs.Option.{option_map}
use Rattle.std.proofs.lemmas.Bool.{and_parts, ltb-true}
use Rattle.std.proofs.lemmas.List.{length-append, length-map}
use Rattle.std.proofs.lemmas.Option.{slice_get_within, slice_get-map}
use Rattle.cap_concentrate.specs.Rounding.{owned}
use Rattle.cap_ops.specs.declared.capability.Cap.{Cap}
use Rattle.cap_ops.specs.declared.capability.TheConstants.{EXECUTE}
use Rattle.cap_ops.specs.Capability.{narrowed_exactly, moved, lacks, null_at}
use Rattle.cap_ops.specs.Permissions.{data_permissions, const_permissions}
use Rattle.cap_ops.proofs.Laws.{bounded_moved}
use Rattle.rv_instr.specs.declared.instr.Instr.{Instr}
use Rattle.rv_instr.specs.declared.instr.Instr.TheVariants.{CapReg}
use Rattle.rv_instr.specs.declared.ops.CapRegOp.TheVariants.{Csetboundsexact}
use Rattle.cap_machine.specs.declared.machine.Machine.{Machine}
use Rattle.cap_machine.specs.State.{integer}
use Rattle.cap_machine.specs.Rows.{row, cap_reg_row, set}
use Rattle.c_tree.specs.declared.typed.FunDef.{FunDef}
use Rattle.c_tree.specs.declared.typed.GlobalDef.{GlobalDef}
use Rattle.c_tree.specs.declared.typed.Literal.{Literal}
use Rattle.c_tree.specs.declared.typed.Typed.{Typed}
use Rattle.c_tree.specs.declared.typed.CType.{CType}
use Rattle.c_tree.specs.Layout.{Extent, extent}
use Rattle.obj_mem.specs.Legal.{ObjectNeed, FunctionNeed, IsFrame, IsSlot, AreFrames, slot_of, owned_of}
use Rattle.obj_mem.specs.Needs.{is_const, need_by, need_of, global_need, literal_need, local_need, local_needs}
use Rattle.obj_mem.specs.Needs.{is_object, function_needs, needs_of}
use Rattle.obj_mem.specs.Objects.{base_in, whole_pointer}
use Rattle.obj_mem.specs.Pointers.{keeps}
use Rattle.obj_mem.specs.Table.{addresses_of, object_base, literal_entry, function_entry}
use Rattle.obj_mem.specs.Values.{Value, Fun, capability_of}
use Rattle.cheri_c_sem.specs.Expressions.{permissions_of}
use Rattle.cheri_c_sem.specs.Modes as modes
use Rattle.cheri_c_sem.specs.Modes.{operations, local_offset, slot_offset}
use Rattle.cheri_c_sem.specs.Programs.{lengths_of}
use Rattle.cheri_c_sem.specs.Steps.{State}
use Rattle.purecap_abi.specs.Words.{load_code, moved_code}
use Rattle.tac_ir.specs.Effects.{kind_at}
use Rattle.tac_ir.specs.Meaning.{Running}
use Rattle.tac_ir.specs.Temps.{falls, writes}
use Rattle.tac_ir.specs.WellFormed.{has, pointer, is_local}
use Rattle.tac_ir.specs.declared.code.TacInstr.{TacInstr}
use Rattle.tac_ir.specs.declared.code.TacInstr.TheVariants as instr
use Rattle.place_inject.specs.Values.{IsKnown}
use Rattle.place_inject.specs.Steps.{is_integer}
use Rattle.place_inject.specs.Frames.{Setting, Point, IsAt, functions_of, stack_top, stack_pointer}
use Rattle.place_inject.specs.Spills.{StackIsThere}
use Rattle.place_inject.specs.Tables.{TableIsThere}
use Rattle.place_inject.specs.Whole.{WholeFits}
use Rattle.place_inject.proofs.Reaching.{kept_bounds, stack_encodable}
use Rattle.place_inject.proofs.Tables.{object_stands}
use Rattle.place_inject.proofs.Wholes.{whole_pointers_fit_law}
use Rattle.select_words.specs.Standing.{HasAt}
use Rattle.select_words.specs.Capabilities.{Local, LocalWords, Entry, EntryWords}
use Rattle.select_runs.specs.Instructions.{IsAskedBy, PointersRun}
use Rattle.select_runs.specs.Kinds.{AreOfKinds}
use Rattle.select_runs.specs.Operands.{ground_of, IsText, IsAtPoint}
use Rattle.select_runs.specs.Results.{Computed, Arrives, before, behind, kinds_in, code_in, IsConstant, IsSelectable}
use Rattle.select_runs.proofs.Acts.{has_front, has_back, one_set}
use Rattle.select_runs.proofs.Far.{moves}
use Rattle.select_runs.proofs.Kinded.{kinded_set, has_kind}
use Rattle.select_runs.proofs.Locals.{some_at, LocalLies, local_lies, local_reach, base_keeps}
use Rattle.select_runs.proofs.Numbers.{null_address, numbers_are_made_law}
use Rattle.select_runs.proofs.Points.{laid, there}
use Rattle.select_runs.proofs.Table.{Reads, entry_few, entry_holds}
use Rattle.select_runs.proofs.Pointing.{pointer_kind, same_capability}
use Rattle.select_runs.proofs.Working.{stretch, computed_there, and_then, and_scratch, of_none}
use Rattle.select_runs.specs.Selecting.{selecting}

-- ---- what the program asks for

get_front : {A : Type 0} (xs ys : List A) (k : ℕ) (x : A) → slice_get xs k ≡ Some x → slice_get (xs ++ ys) k ≡ Some x
get_front [] ys k x h = cc
get_front (y ∷ xs) ys zero x h = h
get_front (y ∷ xs) ys (suc k) x h = get_front xs ys k x h

get_back : {A : Type 0} (xs ys : List A) (k : ℕ) → slice_get (xs ++ ys) (length xs + k) ≡ slice_get ys k
get_back [] ys k = let e : 0 + k ≡ k = omega arith in ap (slice_get ys) e
get_back (y ∷ xs) ys k =
    let e : suc (length xs) + k ≡ suc (length xs + k) = omega arith in
    ap (slice_get (y ∷ (xs ++ ys))) e ∙ get_back xs ys k

need_permissions : (o : Option Extent) (permissions : ℕ) → (need_by o permissions).permissions ≡ permissions
need_permissions None permissions = refl
need_permissions (Some x) permissions = by (Rattle.std.specs.Prelude.nat_le x.size
    Rattle.c_tree.specs.Layout.size_limit)
  where
    by : (b : Bool) → (if b then record { length = x.size; align = x.align; permissions = permissions }
        else Rattle.obj_mem.specs.Needs.nothing_of permissions).permissions ≡ permissions
    by true = refl
    by false = refl

functions_many : (types : List CType) (weight : ℕ → ℕ) (fs : List FunDef) (k : ℕ)
    → length (function_needs types weight k fs) ≡ length fs
functions_many types weight [] k = refl
functions_many types weight (f ∷ fs) k = ap suc (functions_many types weight fs (suc k))

near_or_far : (b c : Bool) (i j k l : Instr) → length (if b then i ∷ [] else j ∷ k ∷ (if c then l ∷ [] else [])) ≤ 3
near_or_far true c i j k l = omega arith
near_or_far false true i j k l = omega arith
near_or_far false false i j k l = omega arith

pub moved_few : (to base offset : ℕ) → length (moved_code to base offset) ≤ 3
moved_few to base offset = near_or_far (nat_lt offset 2048) (nat_lt 0 (offset % 4096)) _ _ _ _

-- ---- a pointer that comes into a temp

module _ (s : Setting) (code : List Instr) (x : IsText s code) (stack : StackIsThere s) (p : Typed) (running : Running)
    (i : TacInstr) (rest : List TacInstr) (to : ℕ) (sel : IsSelectable s p running i rest) (t : State modes.Store)
    (kinded : AreOfKinds (kinds_in s running) t.vars)
    (fits : has p sel.d (kinds_in s running) (code_in s running) to pointer ≡ true) where
  pointing_kinded : (v : Value) → is_integer v ≡ false → AreOfKinds (kinds_in s running) (slice_set t.vars to (Some v))
  pointing_kinded v not_int =
      let h = has_kind p sel.d (kinds_in s running) (code_in s running) to pointer fits in
      kinded_set (kinds_in s running) t.vars to v kinded h.0
      (pointer_kind (kind_at (kinds_in s running) to) v (same_capability (kind_at
      (kinds_in s running) to) pointer h.1 refl) not_int)

whole_fits : (s : Setting) (code : List Instr) (x : IsText s code) (p : Point) (at : ℕ) (t : State modes.Store)
    (m : Machine)
    → IsAtPoint s code p at t m → (object : ℕ) (need : ObjectNeed) (base perms : ℕ) → perms < 4096
    → lacks perms EXECUTE ≡ true
    → (is : IsAt t.mem.memory.shapes object need base)
    → WholeFits (functions_of s) (addresses_of s.map) t.mem.memory.shapes object is.shape perms
whole_fits s code x p at t m point object need base perms small lack is =
    whole_pointers_fit_law (functions_of s) (addresses_of s.map) t.mem.memory.shapes point.fits.objects.spread object
    is.shape is.there
    perms small lack

-- ---- an entry of the table

module _ (s : Setting) (code : List Instr) (x : IsText s code) (stack : StackIsThere s) (loaded : TableIsThere s)
    (p : Typed)
    (running : Running) (i : TacInstr) (rest : List TacInstr) (to : ℕ) (falls_on : falls i ≡ true)
    (wrote : writes i ≡ to ∷ [])
    (no_constant : (n : ℕ) → IsConstant i n → ⊥) (sel : IsSelectable s p running i rest) (at : ℕ)
    (t : State modes.Store) (m : Machine)
    (point : IsAtPoint s code (before running i rest) at t m) where
  abbrev bits : Value → Cap
  bits = capability_of (addresses_of s.map) (base_in t.mem.memory.shapes)

  abbrev start : ℕ
  start = s.map.table.0

  abbrev Reads_it : (offset : ℕ) → Value → Type 0
  Reads_it = Reads s code x loaded (Some (before running i rest)) t m point.fits

  entry_does : (offset : ℕ) (v : Value) → offset < 2 ^ 31 - 2048 → offset < s.map.table.1 → Reads_it offset v
      → (r : ℕ) (words : List Instr) → Entry offset r words → (4 < r) × (r < 29) → HasAt code at words
      → Computed s code m (length words) (at + length words) r r (bits v)
  entry_does offset v small inside reads r words e range has =
      let above = range.0 in let below = range.1 in
      let here = before running i rest in
      subst (λ y. Computed s code m (length y) (at + length y) r r (bits v)) (sym e)
      (stretch s code x here t m at r (length (load_code r 3 offset r)) r r (bits v) (inl refl)
      (entry_holds s code x loaded (Some here) t m point.fits offset v small inside reads r (omega arith) (omega arith)
      m at (there s code x here at t m point) refl (point.fits.stack.table ∙ loaded.table)
      (subst (HasAt code at) e has)))

  entry_comes : (entry : ℕ) (v : Value) → IsKnown t.mem.memory.shapes (functions_of s) v → 16 * entry < s.map.table.1
      → Reads_it (16 * entry) v → (words : List Instr) → EntryWords (selecting s running.fun) to entry words →
      HasAt code at words
      → Arrives s code (behind running rest) 0 6 (at + length words) (record t {
        vars = slice_set t.vars to
            (Some v);
      }) m
  entry_comes entry v known inside reads words form has =
      of_none s code x stack p running i rest to falls_on wrote no_constant sel t m at point v known (Entry
      (16 * entry))
      (λ r us e range hs. entry_does (16 * entry) v form.0 inside reads r us e range hs) 3
      (λ r us e. subst (λ y. length y ≤ 3) (sym e) (entry_few (16 * entry) r)) words form.1 has

-- ---- a local

module _ (s : Setting) (code : List Instr) (x : IsText s code) (stack : StackIsThere s) (p : Typed)
    (asked : IsAskedBy s p)
    (running : Running) (to var : ℕ) (rest : List TacInstr) (sel : IsSelectable s p running (instr.Local to var) rest)
    (at : ℕ)
    (t : State modes.Store) (m : Machine) (point : IsAtPoint s code (before running (instr.Local to var) rest) at t m)
    (words : List Instr) (form : LocalWords (selecting s running.fun) to var words) (hs : HasAt code at words) where
  abbrev local_i : TacInstr
  local_i = instr.Local to var

  abbrev here : Point
  here = before running local_i rest

  abbrev the_local : Value
  the_local = whole_pointer t.mem.memory.shapes (t.first + var) data_permissions

  local_parts : (has p sel.d (kinds_in s running) (code_in s running) to pointer ≡ true) × (var < length
      (lengths_of p sel.d.vars))
  local_parts =
      let q = and_parts (has p sel.d (kinds_in s running) (code_in s running) to pointer) (is_local p sel.d
      (kinds_in s running) (code_in s running) var) sel.fits in
      (q.0, ltb-true var (length (lengths_of p sel.d.vars)) q.1)

  lies : LocalLies s t var form.slot
  lies = local_lies s x.legal p asked here t m point.fits sel.d sel.is var local_parts.1 form.frame form.is form.slot
      form.has

  abbrev base : ℕ
  base = t.frame + form.slot.at

  base_kept : keeps s.map.stack.0 (stack_top s) base ≡ true
  base_kept = base_keeps s x.legal t var form.slot lies

  whole : WholeFits (functions_of s) (addresses_of s.map) t.mem.memory.shapes
      (t.first + var) lies.stands.shape data_permissions
  whole = whole_fits s code x here at t m point (t.first + var) lies.need base data_permissions (omega arith) refl
      lies.stands

  owned_is : lies.stands.shape.owned ≡ form.slot.length
  owned_is =
      (point.fits.objects.spread.placed (t.first + var) lies.stands.shape lies.stands.there).owned_is
      ∙ ap owned lies.stands.length ∙ sym lies.length_is

  -- the stack's capability at the object, narrowed to it
  narrowed_is : narrowed_exactly (stack_pointer s base) form.slot.length
      ≡ capability_of (addresses_of s.map) (base_in t.mem.memory.shapes) the_local
  narrowed_is =
      let low_is = lies.low in let high_is = lies.end in let top_is = lies.top in
      let b = kept_bounds s.map.stack.0 (stack_top s) data_permissions base base_kept in
      let at_base = lies.stands.base_is in
      let own = owned_is in
      sym (ap (λ c. narrowed_exactly c form.slot.length) (ap (moved (stack_pointer s base)) at_base
      ∙ bounded_moved s.map.stack.0 (stack_top s) data_permissions base base b.0 b.1 b.0 b.1))
      ∙ ap (narrowed_exactly (moved (stack_pointer s base) lies.stands.shape.base)) (sym own)
      ∙ whole.made s.map.stack.0 (stack_top s) base (stack_encodable s x.legal) (omega arith) base_kept (omega arith)
      (omega arith)

  local_does : (n : Machine) (mid : ℕ) → IsAtPoint s code here mid t n → (r : ℕ) (ws : List Instr)
      → Local form.slot.at form.slot.length r ws → (4 < r) × (r < 29) → HasAt code mid ws
      → Computed s code n (length ws) (mid + length ws) r r (capability_of (addresses_of s.map)
      (base_in t.mem.memory.shapes) the_local)
  unfolding row cap_reg_row
  local_does n mid now_here r ws o range hw =
      let above = range.0 in
      let below = range.1 in
      let front = moved_code r 2 form.slot.at in
      let end = CapReg Csetboundsexact r r 29 ∷ [] in
      let q = subst (HasAt code mid) o.are hw in
      let back = has_back code mid front (o.number ++ end) q in
      let late : ℕ = mid + length front in
      let last : ℕ = late + length o.number in
      let value = capability_of (addresses_of s.map) (base_in t.mem.memory.shapes) the_local in
      let a = moves (ground_of s code) (laid s code x) s.map.stack.0 (stack_top s) t.frame form.slot.at 2 r
      (local_reach s x.legal t var form.slot lies)
      (λ z. absurd (omega (arith, z, above))) (omega arith) (omega arith) n mid (there s code x here mid t n now_here)
      now_here.fits.stack.stack base_kept (has_front code mid front (o.number ++ end) q) in
      let first = stretch s code x here t n mid r (length front) r r (stack_pointer s base) (inl refl) a in
      let b = numbers_are_made_law (ground_of s code) (laid s code x) first.to late
      (computed_there s code x here t n mid (length front) late r r
      (stack_pointer s base) now_here first) 29 form.slot.length
      (omega arith) (omega arith) o.number o.makes (has_front code late o.number end back) in
      let second = and_scratch s code x here t n (length front) late r (length o.number) 29 (stack_pointer s base)
      (null_at form.slot.length) first (omega arith) (λ z. absurd (omega (arith, z, below))) b in
      let word = one_set (ground_of s code) (laid s code x) second.0.to last
      (computed_there s code x here t n mid (length front + length o.number) last r r
      (stack_pointer s base) now_here second.0)
      (CapReg Csetboundsexact r r 29) r value (has_back code late o.number end back).0 refl (omega arith) (omega arith)
      (ap (λ c. set second.0.to r (narrowed_exactly c (integer second.0.to 29))) second.0.holds
      ∙ ap (λ (c : Cap). set second.0.to r (narrowed_exactly (stack_pointer s base) c.fields.address)) second.1
      ∙ ap (λ k. set second.0.to r (narrowed_exactly (stack_pointer s base) k)) (null_address form.slot.length)
      ∙ ap (set second.0.to r) narrowed_is) in
      let third = and_then s code x here t n (length front + length o.number) last r r 1 r r
      (stack_pointer s base) value second.0
      (inl refl) word in
      let long = length-append front (o.number ++ end) in
      let long' = length-append o.number end in
      let count : length front + length o.number + 1 ≡ length (front ++ (o.number ++ end)) = omega arith in
      let place : last + 1 ≡ mid + length (front ++ (o.number ++ end)) = omega arith in
      subst (λ y. Computed s code n (length y) (mid + length y) r r value) (sym o.are)
      (subst (λ y. Computed s code n y (mid + length (front ++ (o.number ++ end))) r r value) count
      (subst (λ y. Computed s code n (length front + length o.number + 1) y r r value) place third))

  local_few : (r : ℕ) (ws : List Instr) → Local form.slot.at form.slot.length r ws → length ws ≤ 6
  local_few r ws o =
      let front = moved_code r 2 form.slot.at in
      let end = CapReg Csetboundsexact r r 29 ∷ [] in
      let f = moved_few r 2 form.slot.at in
      let few = o.few in
      let long = length-append front (o.number ++ end) in
      let long' = length-append o.number end in
      subst (λ y. length y ≤ 6) (sym o.are) (omega arith)

  local_comes : Arrives s code (behind running rest) 0 9 (at + length words) (record t {
    vars = slice_set t.vars to
        (Some the_local);
  }) m
  local_comes =
      of_none s code x stack p running local_i rest to refl refl (λ n h. h) sel t m at point the_local whole.known
      (Local form.slot.at form.slot.length) (λ r us o range hw. local_does m at point r us o range hw) 6 local_few
      words form.makes hs

-- ---- all of them

module _ (s : Setting) (code : List Instr) (x : IsText s code) (stack : StackIsThere s) (loaded : TableIsThere s)
    (p : Typed)
    (asked : IsAskedBy s p) (t : State modes.Store) where
  global_parts : (k : ℕ) (g : GlobalDef) → slice_get p.globals k ≡ Some g
      → slice_get (s.needs.globals ++ s.needs.literals) k ≡ Some (global_need p.types g)
  global_parts k g h =
      get_front s.needs.globals s.needs.literals k (global_need p.types g)
      (ap (λ (n : Rattle.obj_mem.specs.Legal.Needs). slice_get n.globals k) asked.needs ∙ slice_get-map
      (global_need p.types) p.globals k
      ∙ ap (option_map (global_need p.types)) h)

  literal_parts : (k : ℕ) (l : Literal) → slice_get p.literals k ≡ Some l
      → slice_get (s.needs.globals ++ s.needs.literals) (literal_entry s.needs k) ≡ Some (literal_need l)
  literal_parts k l h =
      get_back s.needs.globals s.needs.literals k
      ∙ ap (λ (n : Rattle.obj_mem.specs.Legal.Needs). slice_get n.literals k) asked.needs
      ∙ slice_get-map literal_need p.literals k
      ∙ ap (option_map literal_need) h

  globals_many : length s.needs.globals ≡ length p.globals
  globals_many =
      ap (λ (n : Rattle.obj_mem.specs.Legal.Needs). length n.globals) asked.needs ∙ length-map p.globals
      (global_need p.types)

-- the permissions of a global's pointer
global_permissions : (p : Typed) (k : ℕ) (g : GlobalDef) → slice_get p.globals k ≡ Some g
    → (global_need p.types g).permissions ≡ permissions_of p [] (slice_get p.globals k)
global_permissions p k g h =
    need_permissions (extent p.types g.of) (if is_const p.types g.of then const_permissions else data_permissions)
    ∙ sym (ap (permissions_of p []) h)

permissions_small : (p : Typed) (g : GlobalDef) → (permissions_of p [] (Some g) < 4096) × (lacks (permissions_of p []
    (Some g)) EXECUTE ≡ true)
permissions_small p g = by (is_const p.types g.of)
  where
    by : (b : Bool) → ((if b then const_permissions else data_permissions) < 4096)
        × (lacks (if b then const_permissions else data_permissions) EXECUTE ≡ true)
    by true = (omega arith, refl)
    by false = (omega arith, refl)

pub pointers_run_law : PointersRun
unfolding operations
pointers_run_law s code x stack loaded w p asked running
    (instr.Local to var) rest is sel at t m point kinded ws form held_words = record {
      next = record t {
        vars = slice_set t.vars to (Some (the_local s code x stack p asked running to var rest sel at t m
            point ws form held_words));
      };
      means = λ k. refl;
      kinded = pointing_kinded s code x stack p running (instr.Local to var) rest to sel t kinded
          (local_parts s code x stack p asked running to var rest sel at t m point ws form held_words).0
          (the_local s code x stack p asked running to var rest sel at t m point ws form held_words) refl;
      does = local_comes s code x stack p asked running to var rest sel at t m point ws form held_words;
    }
pointers_run_law s code x stack loaded w p asked running
    (instr.Global to number false) rest is sel at t m point kinded ws form held_words =
    let i = instr.Global to number false in
    let q = and_parts (has p sel.d (kinds_in s running) (code_in s running) to pointer) (nat_lt number
    (length p.globals)) sel.fits in
    let g = some_at p.globals number (ltb-true number (length p.globals) q.1) in
    let need = global_need p.types g.0 in
    let there_is = global_parts s code x stack loaded p asked t number g.0 g.1 in
    let perms = permissions_of p [] (slice_get p.globals number) in
    let v = whole_pointer t.mem.memory.shapes number perms in
    let small = subst (λ o. (permissions_of p [] o < 4096) × (lacks (permissions_of p [] o) EXECUTE ≡ true)) (sym g.1)
    (permissions_small p g.0) in
    let known = (whole_fits s code x (before running i rest) at t m point number need
    (object_base s.map number) perms small.0 small.1
    (object_stands s x.legal loaded (Some (before running i rest)) t m point.fits number need there_is)).known in
    let room = point.fits.table.room in
    let below = slice_get_within (s.needs.globals ++ s.needs.literals) number need there_is in
    record {
      next = record t { vars = slice_set t.vars to (Some v) };
      means = λ k. refl;
      kinded = pointing_kinded s code x stack p running i rest to sel t kinded q.0 v refl;
      does = entry_comes s code x stack loaded p running i rest to refl refl (λ n h. h) sel at t m point number v known
          (omega (arith, room, below, length-append s.needs.globals s.needs.literals))
          (λ u r from z place read is_at. read.objects number need there_is is_at
          ∙ ap (λ y. set u r (capability_of (addresses_of s.map) (base_in t.mem.memory.shapes)
          (whole_pointer t.mem.memory.shapes number y)))
          (global_permissions p number g.0 g.1))
          ws form held_words;
    }
pointers_run_law s code x stack loaded w p asked running
    (instr.Global to number true) rest is sel at t m point kinded ws form held_words =
    let i = instr.Global to number true in
    let q = and_parts (has p sel.d (kinds_in s running) (code_in s running) to pointer) (nat_lt number
    (length p.literals)) sel.fits in
    let l = some_at p.literals number (ltb-true number (length p.literals) q.1) in
    let entry = literal_entry s.needs number in
    let there_is = literal_parts s code x stack loaded p asked t number l.0 l.1 in
    let v = whole_pointer t.mem.memory.shapes (length p.globals + number) const_permissions in
    let same : whole_pointer t.mem.memory.shapes entry const_permissions ≡ v =
    ap (λ y. whole_pointer t.mem.memory.shapes (y + number) const_permissions)
    (globals_many s code x stack loaded p asked t) in
    let known = subst (IsKnown t.mem.memory.shapes (functions_of s)) same
    (whole_fits s code x (before running i rest) at t m point entry (literal_need l.0)
    (object_base s.map entry) const_permissions (omega arith) refl
    (object_stands s x.legal loaded (Some (before running i rest)) t m point.fits entry
    (literal_need l.0) there_is)).known in
    let room = point.fits.table.room in
    let below = slice_get_within (s.needs.globals ++ s.needs.literals) entry (literal_need l.0) there_is in
    record {
      next = record t { vars = slice_set t.vars to (Some v) };
      means = λ k. refl;
      kinded = pointing_kinded s code x stack p running i rest to sel t kinded q.0 v refl;
      does = entry_comes s code x stack loaded p running i rest to refl refl (λ n h. h) sel at t m point entry v known
          (omega (arith, room, below, length-append s.needs.globals s.needs.literals))
          (λ u r from z place read is_at. read.objects entry (literal_need l.0) there_is is_at
          ∙ ap (λ y. set u r (capability_of (addresses_of s.map) (base_in t.mem.memory.shapes) y)) same)
          ws form held_words;
    }
pointers_run_law s code x stack loaded w p asked running
    (instr.Function to f) rest is sel at t m point kinded ws form held_words =
    let i = instr.Function to f in
    let q = and_parts (has p sel.d (kinds_in s running) (code_in s running) to pointer) (nat_lt f
    (length p.funs)) sel.fits in
    let l = ltb-true f (length p.funs) q.1 in
    let many : functions_of s ≡ length p.funs =
    ap (λ (n : Rattle.obj_mem.specs.Legal.Needs). length n.functions) asked.needs
    ∙ functions_many p.types asked.weight p.funs 0 in
    let known : f < functions_of s = omega (arith, l, many) in
    let room = point.fits.table.room in
    record {
      next = record t { vars = slice_set t.vars to (Some (Fun f)) };
      means = λ k. refl;
      kinded = pointing_kinded s code x stack p running i rest to sel t kinded q.0 (Fun f) refl;
      does = entry_comes s code x stack loaded p running i rest to refl refl (λ n h. h) sel at t m point
          (function_entry s.needs f) (Fun f) known
          (omega (arith, room, known))
          (λ u r from z place read is_at. read.functions f known is_at) ws form held_words;
    }
pointers_run_law s code x stack loaded w p asked running i rest is sel at t m point kinded ws form held_words = absurd
    is
