-- Functions of what was made of a program stand as they were selected.
use Rattle.std.proofs.Common.{◌≡◌, ℕ, ◌+◌, ◌-◌, ◌*◌, ◌%◌, ◌<◌, ◌≤◌, pos, List, [], ◌∷◌, ◌++◌, length, Option, Some}
use Rattle.std.proofs.Common.{None, refl, arith, sym, ap, ◌∙◌, subst}
use Rattle.std.specs.Prelude.{◌/◌, slice_get, slice_index, slice_index_or}
use Rattle.std.specs.List.{Contains}
use Rattle.std.specs.Option.{option_map}
use Rattle.std.proofs.lemmas.List.{append_assoc}
use Rattle.std.proofs.lemmas.Option.{get_or_from_slice_get, slice_get-get_or, slice_get-map, slice_get_within}
use Rattle.ck_base.specs.declared.positions.Pos.{Pos}
use Rattle.rv_instr.specs.declared.instr.Instr.{Instr}
use Rattle.rv_instr.specs.declared.instr.Instr.TheVariants.{Cjalr}
use Rattle.obj_mem.specs.declared.map.Frame.{Frame}
use Rattle.cheri_c_sem.specs.Programs.{program_tree}
use Rattle.reg_alloc.specs.declared.places.Home.{Home}
use Rattle.reg_alloc.specs.declared.places.Places.{Places}
use Rattle.purecap_abi.specs.Saving.{registers_at}
use Rattle.tac_ir.specs.Costs.{outgoing}
use Rattle.tac_ir.specs.Meaning.{code_of}
use Rattle.tac_ir.specs.declared.code.TacFun.{TacFun}
use Rattle.tac_ir.specs.declared.code.TacInstr.{TacInstr}
use Rattle.tac_live.specs.Calls.{arguments}
use Rattle.place_inject.specs.Frames.{homes_of}
use Rattle.select_words.specs.Entries.{stack_place}
use Rattle.select_words.specs.Selecting.{Selecting}
use Rattle.select_words.specs.Services.{KeepSome, ask}
use Rattle.select_words.specs.Standing.{HasAt}
use Rattle.select_runs.proofs.Acts.{has_back, has_front}
use Rattle.rv_emit.specs.Growing.{line_at}
use Rattle.rv_emit.specs.Leading.{IsHop}
use Rattle.rv_select.specs.Selected.{Far, FunctionStands, Near, StartWords, in_function, is_entered, is_said, is_sunk}
use Rattle.image_runs.specs.Asked.{Enters, FunctionIs, IsAt, Says, Sinks, called_to}
use Rattle.image_runs.specs.Made.{AreMade, AreSelected, AreStanding, Made, SelectedFunctions, before_rest, behind_call}
use Rattle.image_runs.specs.Made.{homes_in, keep_length, result_by, result_of, selecting_in, setting_of, table_in}
use Rattle.image_runs.specs.Made.{stub_by, stub_of, whole_of}
use Rattle.image_runs.specs.Starting.{CallsFirst}
use Rattle.image_runs.specs.Starting as first
use Rattle.image_runs.proofs.Kept.{before_rest_is, kept_length, passed_places}
use Rattle.image_runs.proofs.Turned.{function_turned}

-- the place of a whole word
quarter : (n : ℕ) → n % 4 ≡ 0 → (at : ℕ) × (n ≡ 4 * at)
quarter n e = (n / 4, omega (arith, e))

module _ (m : Made) (s : AreSelected m) (a : AreMade m s) where
  abbrev base : ℕ
  base = m.map.text.0

  -- ---- entries

  record EntersAt (fun : ℕ) : Type 0 where
    at : ℕ
    is : slice_get m.entries fun ≡ Some (4 * at)

  enters_at : (fun : ℕ) (f : TacFun) → slice_get m.code.funs fun ≡ Some f → EntersAt fun
  enters_at fun f e =
      let there = slice_get_within m.code.funs fun f e in
      let long = a.entered in
      let lt : fun < length m.entries = omega (arith, long) in
      let q = quarter (slice_index m.entries fun) (a.entries.whole fun lt) in
      record { at = q.0; is = slice_get-get_or m.entries fun 0 lt ∙ ap Some q.1 }

  entry_of_map : (fun : ℕ) → slice_get m.map.entries fun ≡ option_map (λ n. base + n) (slice_get m.entries fun)
  entry_of_map fun = ap (λ xs. slice_get xs fun) a.map ∙ slice_get-map (λ n. base + n) m.entries fun

  enters_so : (fun at : ℕ) → Enters (whole_of m s) fun at → is_entered m.entries fun at
  enters_so fun at e = by (slice_get m.entries fun) refl
    where
      by : (o : Option ℕ) → slice_get m.entries fun ≡ o → is_entered m.entries fun at
      by None q =
          let z : None ≡ Some (base + 4 * at) = sym (entry_of_map fun ∙ ap (option_map (λ n. base + n)) q) ∙ e in cc
      by (Some n) q =
          let z : Some (base + n) ≡ Some (base + 4 * at) =
          sym (entry_of_map fun ∙ ap (option_map (λ k. base + k)) q) ∙ e in
          let same : base + n ≡ base + 4 * at = cc in
          q ∙ ap Some (omega (arith, same))

  -- ---- lines

  says_so : (n : ℕ) (p : Pos) → is_said m.lines n p → Says (whole_of m s) n p
  says_so n p h c = a.lines.traps c (line_at n p 0) h refl

  sinks_so : (n : ℕ) (p : Pos) → is_sunk m.lines n p → Sinks (whole_of m s) n p
  sinks_so n p h c = a.lines.sinks c (line_at n p 1) h refl

  -- ---- a function

  module _ (fun : ℕ) (f : TacFun) (is : slice_get m.code.funs fun ≡ Some f) where
    there : fun < length m.places
    there = let long = a.places in let lt = slice_get_within m.code.funs fun f is in omega (arith, long)

    -- some places stand for none
    pub nowhere : Places
    nowhere = record { homes = [] }

    abbrev pub own : Places
    own = slice_index_or m.places fun nowhere

    pub own_is : slice_get m.places fun ≡ Some own
    own_is = slice_get-get_or m.places fun nowhere there

    pub homes_are : homes_of (setting_of m s) fun ≡ own.homes
    homes_are =
        get_or_from_slice_get (homes_in m s) fun own.homes []
        (slice_get-map (λ (l : Places). l.homes) m.places fun ∙ ap (option_map (λ (l : Places). l.homes)) own_is)

    abbrev frame : Frame
    frame = (a.frames fun f is).0

    frame_is : slice_get m.map.frames fun ≡ Some frame
    frame_is = (a.frames fun f is).1.is

    abbrev made : Option Frame → List Home → Selecting
    made x homes = record {
      frame = x;
      homes = homes;
      numbers = s.numbers fun;
      literals = (table_in m).literals;
      functions = (table_in m).functions;
      heap = (table_in m).heap;
    }

    selecting_is : in_function (table_in m) own.homes frame (s.numbers fun) ≡ selecting_in m s fun
    selecting_is = ap (λ x. made x own.homes) (sym frame_is) ∙ ap (made (slice_get m.map.frames fun)) (sym homes_are)

    enters : EntersAt fun
    enters = enters_at fun f is

    stands : FunctionStands m.words (Says (whole_of m s)) (Sinks (whole_of m s)) (Enters (whole_of m s))
        (selecting_in m s fun) frame f (s.word fun) enters.at
    stands =
        subst (λ x. FunctionStands m.words (Says (whole_of m s)) (Sinks (whole_of m s)) (Enters (whole_of m s)) x frame
        f (s.word fun) enters.at) selecting_is
        (function_turned m.words (is_said m.lines) (Says (whole_of m s)) (is_sunk m.lines) (Sinks (whole_of m s))
        (is_entered m.entries) (Enters (whole_of m s)) says_so sinks_so enters_so
        (in_function (table_in m) own.homes frame (s.numbers fun)) f (s.word fun) frame enters.at
        (s.functions fun enters.at f own frame is own_is frame_is enters.is))

    room : (i : TacInstr) → Contains f.code i → (to : Option ℕ) → called_to i ≡ Some to
        → stack_place (length (arguments i)) ≤ registers_at (homes_of (setting_of m s) fun) frame
    room i among to call =
        let all = subst (λ h. 16 + 16 * outgoing f.code ≤ registers_at h frame) (sym homes_are)
        (a.room fun f own frame is own_is frame_is) in
        let le = passed_places f.code among.0 i to
        (slice_get-get_or f.code among.0 i among.1 ∙ ap Some among.2) call in
        omega arith

    -- the word behind a call, before those that keep what it gives
    back : (i : TacInstr) (rest : List TacInstr) → IsAt f i rest → (to : Option ℕ) → called_to i ≡ Some to
        → (keep : List Instr) → KeepSome (selecting_in m s fun) to keep → (at : ℕ) → at + length keep ≡ s.word fun rest
        → base + 4 * behind_call m s fun rest ≡ base + 4 * at
    back i rest at to call keep kept n sum =
        let before : before_rest (code_of (slice_get m.code.funs fun)) rest ≡ Some i =
        ap (λ o. before_rest (code_of o) rest) is ∙ before_rest_is f.code at.before i rest at.is in
        let result : result_of (before_rest (code_of (slice_get m.code.funs fun)) rest) ≡ to =
        ap result_of before ∙ ap result_by call in
        let long = kept_length (selecting_in m s fun) to keep kept in
        let same : behind_call m s fun rest ≡ n =
        ap (λ o. s.word fun rest - keep_length (selecting_in m s fun) o) result ∙ omega (arith, long, sum) in
        ap (λ k. base + 4 * k) same

    function_is : FunctionIs (whole_of m s) fun f
    function_is = record {
      frame = frame;
      framed = (a.frames fun f is).1;
      entry = enters.at;
      enters = entry_of_map fun ∙ ap (option_map (λ n. base + n)) enters.is;
      stands = stands;
      room = room;
      back = back;
    }

  -- ---- the start

  abbrev StartsBy : List Instr → Type 0
  StartsBy = StartWords (λ z. (at : ℕ) → is_entered m.entries m.program.main at → IsHop 0 at z)
      ((table_in m).functions + m.program.main)

  begun : (words : List Instr) (x : StartsBy words) → HasAt m.words 0 words → stub_of m s ≡ stub_by x
      → HasAt m.words (stub_by x) (ask 3) × CallsFirst (whole_of m s)
  unfolding program_tree
  begun words (Near offset leads are) has same =
      let q = subst (HasAt m.words 0) are has in (
        q.1,
        first.Near offset q.0 (λ at e. leads at (enters_so m.program.main at e)) (ap (λ n. base + 4 * n) same),
      )
  begun words (Far finds found are) has same =
      let q = subst (HasAt m.words 0) are has in
      let call = Cjalr 1 31 (pos 0) ∷ [] in
      let later = has_back m.words 0 finds (Cjalr 1 31 (pos 0) ∷ ask 3) q in
      let place : 0 + length finds + 1 ≡ length finds + 1 = omega arith in (
        subst (λ n. HasAt m.words n (ask 3)) place later.1,
        first.Far finds found
            (has_front m.words 0 (finds ++ call) (ask 3)
            (subst (HasAt m.words 0) (sym (append_assoc finds call (ask 3))) q)) (ap (λ n. base + 4 * n) same),
      )

  starting : HasAt m.words (stub_of m s) (ask 3) × CallsFirst (whole_of m s)
  starting = begun s.start s.starts s.begins refl

  standing : AreStanding m s
  standing = record {
    functions = function_is;
    numbers = λ fun f is. s.numbered fun f is;
    stub = record { is = refl; words = starting.0 };
    first = starting.1;
  }

pub selected_functions_law : SelectedFunctions
selected_functions_law m s a = standing m s a
