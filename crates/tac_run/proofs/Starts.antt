-- The moment with which a run begins is sound.
use Rattle.std.proofs.Common.{◌≡◌, ℕ, zero, suc, ◌+◌, ◌^◌, ◌<◌, ◌≤◌, true, false, List, [], ◌∷◌, length, map, Some}
use Rattle.std.proofs.Common.{Result}
use Rattle.std.proofs.Common.{Ok, Err, refl, sym, ap, ◌∙◌, subst, arith}
use Rattle.std.specs.Prelude.{IfOk, slice_get, slice_index_or}
use Rattle.cap_ops.specs.Permissions.{data_permissions}
use Rattle.c_tree.specs.declared.typed.GlobalDef.{GlobalDef}
use Rattle.c_tree.specs.declared.typed.Link.{Link}
use Rattle.c_tree.specs.declared.typed.Target.{Target}
use Rattle.c_tree.specs.declared.typed.Target.TheVariants as target
use Rattle.c_tree.specs.declared.typed.Typed.{Typed}
use Rattle.obj_mem.specs.declared.ending.Fault.{Fault}
use Rattle.obj_mem.specs.declared.map.Map.{Map}
use Rattle.obj_mem.specs.Objects.{Shape, base_in}
use Rattle.obj_mem.specs.Values as value
use Rattle.obj_mem.specs.Values.{Value}
use Rattle.cheri_c_sem.specs.Calls.{add_globals, add_literals, memory_or, written, with_bytes, with_links}
use Rattle.cheri_c_sem.specs.Calls.{all_bytes, fill_globals, link_globals, fill_literals, start}
use Rattle.cheri_c_sem.specs.Meaning.{further}
use Rattle.cheri_c_sem.specs.Modes.{Store, operations, placed_plan, local_offset}
use Rattle.cheri_c_sem.specs.Operations.{Operations}
use Rattle.cheri_c_sem.specs.Programs.{global_tree, lengths_of, program_tree, value_at}
use Rattle.cheri_c_sem.specs.Tree.{Global}
use Rattle.tac_ir.specs.Meaning.{kinds_of}
use Rattle.tac_ir.specs.WellFormed.{is_well_formed}
use Rattle.tac_ir.specs.declared.code.Tac.{Tac}
use Rattle.tac_steps.specs.Machine.{first_moment, in_frame}
use Rattle.tac_run.specs.Bases.{IsBased, AreBased, Grows, Lasts, KeepBases}
use Rattle.tac_run.specs.Lists.{bytes_of, starting_of, vars_of}
use Rattle.tac_run.specs.Moments.{IsSound}
use Rattle.tac_run.specs.Ready.{IsLinkBased, IsGlobalReady, IsReady, objects_by}
use Rattle.tac_run.proofs.Accesses.{stays}
use Rattle.tac_run.proofs.Acts.{entered_below, locals_last}
use Rattle.tac_run.proofs.Calling.{objects_at}
use Rattle.tac_run.proofs.Keeps.{maps_keep_bases_law}
use Rattle.tac_run.proofs.Objects.{base_last, grows_on, one_longer}
use Rattle.tac_run.proofs.Temps.{entry_based}

-- ---- memory, step by step

same : (s : Store) → AreBased s.memory → Lasts s s
same s based = record { based = based; grows = stays s.memory.shapes }

onto : (s t u : Store) → Lasts s t → Lasts t u → Lasts s u
onto s t u a b = record { based = b.based; grows = grows_on _ _ _ a.grows b.grows }

-- so many objects more, from a number on, at these bases
record Added (base : ℕ → ℕ) (s s' : Store) (from count : ℕ) : Type 0 where
  lasts : Lasts s s'
  more : length s'.memory.shapes ≡ length s.memory.shapes + count
  there : (j : ℕ) → j < count → base_in s'.memory.shapes (length s.memory.shapes + j) ≡ base (from + j)

none_added : (base : ℕ → ℕ) (s : Store) (k : ℕ) → AreBased s.memory → Added base s s k 0
none_added base s k based =
    record { lasts = same s based; more = omega arith; there = λ j h. absurd (omega arith) }

-- the first of them and then the others
first_added : (base : ℕ → ℕ) (s t u : Store) (k n : ℕ) → Lasts s t →
    length t.memory.shapes ≡ suc (length s.memory.shapes)
    → base_in t.memory.shapes (length s.memory.shapes) ≡ base k → Added base t u (suc k) n → Added base s u k (suc n)
first_added base s t u k n one longer at rest =
    let long = rest.more in
    record {
      lasts = onto s t u one rest.lasts;
      more = omega arith;
      there = by;
    } where
      by : (j : ℕ) → j < suc n → base_in u.memory.shapes (length s.memory.shapes + j) ≡ base (k + j)
      by zero h =
          let here : length s.memory.shapes + 0 ≡ length s.memory.shapes = omega arith in
          let first : k + 0 ≡ k = omega arith in
          ap (base_in u.memory.shapes) here
          ∙ (rest.lasts.grows.same (length s.memory.shapes) (omega arith) ∙ at ∙ ap base (sym first))
      by (suc j) h =
          let here : length s.memory.shapes + suc j ≡ length t.memory.shapes + j = omega arith in
          let next : suc k + j ≡ k + suc j = omega arith in
          ap (base_in u.memory.shapes) here ∙ (rest.there j (omega arith) ∙ ap base next)

module _ (p : Typed) (m : Map) (ready : IsReady p m) where
  abbrev ops : Operations Store
  ops = operations (placed_plan m)

  keep : KeepBases m (operations (placed_plan m))
  keep = let small = ready.roomy.heap in maps_keep_bases_law m (omega arith)

  -- ---- objects are added

  abbrev global_base : ℕ → ℕ
  global_base k = slice_index_or m.globals k 0

  abbrev literal_base : ℕ → ℕ
  literal_base k = slice_index_or m.literals k 0

  global_more : (s : Store) (k n : ℕ) → length (ops.add_global s k n).memory.shapes ≡ suc (length s.memory.shapes)
  unfolding operations
  global_more s k n = one_longer s.memory.shapes _

  global_there : (s : Store) (k n : ℕ) →
      base_in (ops.add_global s k n).memory.shapes (length s.memory.shapes) ≡ slice_index_or m.globals k 0
  unfolding operations
  global_there s k n = base_last s.memory.shapes _

  literal_more : (s : Store) (k n : ℕ) → length (ops.add_literal s k n).memory.shapes ≡ suc (length s.memory.shapes)
  unfolding operations
  literal_more s k n = one_longer s.memory.shapes _

  literal_there : (s : Store) (k n : ℕ) →
      base_in (ops.add_literal s k n).memory.shapes (length s.memory.shapes) ≡ slice_index_or m.literals k 0
  unfolding operations
  literal_there s k n = base_last s.memory.shapes _

  globals_added : (gs : List Global) (s : Store) (k : ℕ) → AreBased s.memory →
      Added global_base s (add_globals ops s k gs) k (length gs)
  globals_added [] s k based = none_added global_base s k based
  globals_added (g ∷ gs) s k based =
      let one = keep.add_global s k g.length based (ready.global_bases k) in
      first_added global_base s (ops.add_global s k g.length) _ k (length gs) one (global_more s k g.length)
      (global_there s k g.length) (globals_added gs (ops.add_global s k g.length) (suc k) one.based)

  literals_added : (ls : List (List ℕ)) (s : Store) (k : ℕ) → AreBased s.memory →
      Added literal_base s (add_literals ops s k ls) k (length ls)
  literals_added [] s k based = none_added literal_base s k based
  literals_added (l ∷ ls) s k based =
      let one = keep.add_literal s k (length l) based (ready.literal_bases k) in
      first_added literal_base s (ops.add_literal s k (length l)) _ k (length ls) one (literal_more s k (length l))
      (literal_there s k (length l)) (literals_added ls (ops.add_literal s k (length l)) (suc k) one.based)

  -- the globals and the literals are there, at their bases
  record HasPlaces (shapes : List Shape) : Type 0 where
    count : length p.globals + length p.literals ≤ length shapes
    global : (k : ℕ) → k < length p.globals → base_in shapes k ≡ slice_index_or m.globals k 0
    literal : (k : ℕ) → k < length p.literals →
        base_in shapes (length p.globals + k) ≡ slice_index_or m.literals k 0

  places_later : (s t : List Shape) → Grows s t → HasPlaces s → HasPlaces t
  places_later s t g h =
      let more = g.longer in
      let count = h.count in
      record {
        count = omega arith;
        global = λ k l. g.same k (omega arith) ∙ h.global k l;
        literal = λ k l. g.same (length p.globals + k) (omega arith) ∙ h.literal k l;
      }

  abbrev objects : List Global → List (List ℕ) → Store
  objects gs ls = add_literals ops (add_globals ops ops.empty 0 gs) 0 ls

  empty_long : length ops.empty.memory.shapes ≡ 0
  unfolding operations
  empty_long = refl

  placed : (gs : List Global) (ls : List (List ℕ)) → length gs ≡ length p.globals → length ls ≡ length p.literals →
      AreBased (objects gs ls).memory × HasPlaces (objects gs ls).memory.shapes
  placed gs ls as_many as_many_literals =
      let a = globals_added gs ops.empty 0 keep.empty in
      let b = literals_added ls (add_globals ops ops.empty 0 gs) 0 a.lasts.based in
      let long = a.more in
      let longer = b.more in
      let none = empty_long in
      let full : length (add_globals ops ops.empty 0 gs).memory.shapes ≡ length p.globals = omega arith in (
        b.lasts.based,
        record {
          count = omega arith;
          global = λ k l.
              b.lasts.grows.same k (omega arith)
              ∙ (let here : k ≡ length ops.empty.memory.shapes + k = omega arith in
              ap (base_in (add_globals ops ops.empty 0 gs).memory.shapes) here ∙ (a.there k (omega arith) ∙
              (let next : 0 + k ≡ k = omega arith in ap global_base next)));
          literal = λ k l.
              (let here : length p.globals + k ≡ length (add_globals ops ops.empty 0 gs).memory.shapes + k = omega arith
              in
              ap (base_in (objects gs ls).memory.shapes) here) ∙ (b.there k (omega arith) ∙
              (let next : 0 + k ≡ k = omega arith in ap literal_base next));
        },
      )

  -- ---- bytes and pointers are written

  or_last : (s : Store) (r : Result Store Fault) → AreBased s.memory → IfOk r (Lasts s) → Lasts s (memory_or ops s r)
  or_last s (Ok t) based h = h
  or_last s (Err e) based h = same s based

  written_last : (s : Store) (object at n : ℕ) (v : Value) → AreBased s.memory → IsBased s.memory.shapes v →
      Lasts s (written ops s object at n v)
  written_last s object at n v based h =
      let to = further (ops.whole s object data_permissions) at in
      or_last s (ops.store s to n v) based (keep.store s to v n based h)

  bytes_last : (bs : List ℕ) (s : Store) (object at : ℕ) → AreBased s.memory → Lasts s (with_bytes ops s object at bs)
  bytes_last [] s object at based = same s based
  bytes_last (b ∷ bs) s object at based =
      let one = written_last s object at 1 (value.Int b) based tt in
      onto s (written ops s object at 1 (value.Int b)) _ one
      (bytes_last bs (written ops s object at 1 (value.Int b)) object (suc at) one.based)

  globals_filled : (gs : List Global) (s : Store) (object : ℕ) → AreBased s.memory →
      Lasts s (fill_globals ops s object gs)
  globals_filled [] s object based = same s based
  globals_filled (g ∷ gs) s object based =
      let one = bytes_last (all_bytes ops g) s object 0 based in
      onto s (with_bytes ops s object 0 (all_bytes ops g)) _ one
      (globals_filled gs (with_bytes ops s object 0 (all_bytes ops g)) (suc object) one.based)

  literals_filled : (ls : List (List ℕ)) (s : Store) (object : ℕ) → AreBased s.memory →
      Lasts s (fill_literals ops s object ls)
  literals_filled [] s object based = same s based
  literals_filled (l ∷ ls) s object based =
      let one = bytes_last l s object 0 based in
      onto s (with_bytes ops s object 0 l) _ one
      (literals_filled ls (with_bytes ops s object 0 l) (suc object) one.based)

  link_based : (shapes : List Shape) → HasPlaces shapes → (l : Link) (to : Target) → IsLinkBased p m l.low to →
      IsBased shapes (value_at p l to)
  link_based shapes h l (target.Global k) b =
      let count = h.count in
      let there = b.0 in
      (omega arith, subst (λ n. n + l.low < 2 ^ 64) (sym (h.global k b.0)) b.1)
  link_based shapes h l (target.Literal k) b =
      let count = h.count in
      let there = b.0 in
      (omega arith, subst (λ n. n + l.low < 2 ^ 64) (sym (h.literal k b.0)) b.1)
  link_based shapes h l (target.Fun f) b = tt

  links_last : (ls : List Link) (s : Store) (object : ℕ) →
      ((k : ℕ) (l : Link) → slice_get ls k ≡ Some l → IsLinkBased p m l.low l.target) → AreBased s.memory →
      HasPlaces s.memory.shapes → Lasts s (with_links ops s object (map (starting_of p) ls))
  links_last [] s object h based places = same s based
  links_last (l ∷ ls) s object h based places =
      let one = written_last s object l.at 16 (value_at p l l.target) based
      (link_based s.memory.shapes places l l.target (h 0 l refl)) in
      onto s (written ops s object l.at 16 (value_at p l l.target)) _ one
      (links_last ls (written ops s object l.at 16 (value_at p l l.target)) object (λ k. h (suc k)) one.based
      (places_later _ _ one.grows places))

  globals_linked : (gs : List GlobalDef) (s : Store) (object : ℕ) →
      ((k : ℕ) (g : GlobalDef) → slice_get gs k ≡ Some g → IsGlobalReady p m g) → AreBased s.memory →
      HasPlaces s.memory.shapes → Lasts s (link_globals ops s object (map (global_tree p) gs))
  globals_linked [] s object h based places = same s based
  globals_linked (g ∷ gs) s object h based places =
      let one = links_last g.links s object (h 0 g refl).based based places in
      onto s (with_links ops s object (map (starting_of p) g.links)) _ one
      (globals_linked gs (with_links ops s object (map (starting_of p) g.links)) (suc object) (λ k. h (suc k))
      one.based (places_later _ _ one.grows places))

  -- ---- the start of a program

  record IsStarted (s : Store) : Type 0 where
    based : AreBased s.memory
    count : length p.globals + length p.literals ≤ length s.memory.shapes

  as_long : {A B : Type 0} (f : A → B) (xs : List A) → length (map f xs) ≡ length xs
  as_long f [] = refl
  as_long f (x ∷ xs) = ap suc (as_long f xs)

  started_by : (gs : List Global) (ls : List (List ℕ)) → gs ≡ map (global_tree p) p.globals →
      ls ≡ map bytes_of p.literals →
      IsStarted (link_globals ops (fill_literals ops (fill_globals ops (objects gs ls) 0 gs) (length gs) ls) 0 gs)
  started_by gs ls is literals_are =
      let first = placed gs ls (ap length is ∙ as_long (global_tree p) p.globals)
      (ap length literals_are ∙ as_long bytes_of p.literals) in
      let a = globals_filled gs (objects gs ls) 0 first.0 in
      let b = literals_filled ls (fill_globals ops (objects gs ls) 0 gs) (length gs) a.based in
      let c = onto _ _ _ a b in
      let places = places_later _ _ c.grows first.1 in
      let d = globals_linked p.globals (fill_literals ops (fill_globals ops (objects gs ls) 0 gs) (length gs) ls) 0
      ready.globals c.based places in
      subst (λ gs'. IsStarted (link_globals ops (fill_literals ops (fill_globals ops (objects gs ls) 0 gs)
      (length gs) ls) 0 gs')) (sym is)
      (record { based = d.based; count = (places_later _ _ d.grows places).count })

  started : IsStarted (start ops (program_tree p))
  unfolding start program_tree
  started = started_by (map (global_tree p) p.globals) (map bytes_of p.literals) refl refl

  main_is : (program_tree p).main ≡ p.main
  unfolding program_tree
  main_is = refl

  top_is : ops.stack_top ≡ m.stack.0 + m.stack.1
  unfolding operations
  top_is = refl

  -- its locals' bases are numbers of 64 bits
  pub first_room : (main address : ℕ) → ops.enter main ops.stack_top ≡ Some address → (n : ℕ) →
      n < length (lengths_of p (vars_of (slice_get p.funs main))) →
      address + local_offset (slice_get m.frames main) n < 2 ^ 64
  first_room main address e n h =
      let below = entered_below p m ready.roomy main ops.stack_top address e in
      let top = top_is in
      let small = ready.roomy.stack in
      let lower = below.locals n (subst (λ ls. n < length ls) (sym (objects_at p main)) h) in
      omega arith

  module _ (t : Tac) (formed : is_well_formed t p ≡ true) where
    in_first_frame : (main address turns : ℕ) (s : Store) → IsStarted s → ops.enter main ops.stack_top ≡ Some address →
        IsSound p (record {
          fun = main;
          at = 0;
          turned = false;
          callers = [];
          now = in_frame ops t (objects_by p) address main []
              (record { vars = []; first = 0; mem = s; frame = ops.stack_top; left = turns });
        })
    in_first_frame main address turns s h e =
        let roomy = ready.roomy in
        let below = entered_below p m roomy main ops.stack_top address e in
        let top = top_is in
        let small = roomy.stack in
        let lower = below.frame in
        let more = locals_last t p m formed roomy address main (length (objects_by p main))
        (λ k l. let lower = below.locals k l in omega arith) (objects_by p main) s 0 (omega arith) h.based in
        let longer = more.lasts.grows.longer in
        let before = h.count in
        record {
          memory = more.lasts.based;
          program = omega arith;
          now = record {
            temps = entry_based _ (kinds_of (slice_get t.funs main)) [] tt;
            room = omega (arith, keep.count s, more.more);
            frame = omega arith;
          };
          callers = tt;
        }

    pub first_sound : (address turns : ℕ) → ops.enter p.main ops.stack_top ≡ Some address →
        IsSound p (first_moment ops t (objects_by p) address (program_tree p) turns)
    first_sound address turns e =
        in_first_frame (program_tree p).main address turns (start ops (program_tree p)) started
        (subst (λ k. ops.enter k ops.stack_top ≡ Some address) (sym main_is) e)
