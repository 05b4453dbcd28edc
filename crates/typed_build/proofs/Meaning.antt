-- What is written of a program's selected code is built of it: its machine does what the program means.
use Rattle.std.proofs.Common.{◌≡◌, ℕ, zero, suc, ◌*◌, ◌<◌, ◌≤◌, true, List, [], ◌∷◌, length, map, Some}
use Rattle.std.proofs.Common.{None, refl, sym, ap, ◌∙◌, subst, arith, inl, inr}
use Rattle.std.specs.Prelude.{slice_get, slice_index_or}
use Rattle.std.specs.List.{All}
use Rattle.std.proofs.lemmas.Bool.{cases_lt}
use Rattle.std.proofs.lemmas.List.{length-map}
use Rattle.std.proofs.lemmas.Option.{none-some, slice_get_within}
use Rattle.cap_machine.specs.declared.end.End.TheVariants as end
use Rattle.c_tree.specs.Typing.{Sound}
use Rattle.c_tree.specs.declared.typed.FunDef.{FunDef}
use Rattle.c_tree.specs.declared.typed.Typed.{Typed}
use Rattle.elf_file.specs.Image.{lines_ok}
use Rattle.elf_file.specs.declared.image.Image.{Image}
use Rattle.elf_file.proofs.Lines.{starts_from_none, test_from_rules}
use Rattle.image_load.specs.State.{machine_of}
use Rattle.obj_mem.specs.Counted.{count_of}
use Rattle.obj_mem.specs.Legal.{AreFrames, FunctionNeed}
use Rattle.obj_mem.specs.Needs.{Legal, function_needs, global_need, literal_need, weight_in}
use Rattle.obj_mem.specs.declared.ending.Ending.TheVariants as ending
use Rattle.obj_mem.specs.declared.map.Frame.{Frame}
use Rattle.obj_mem.specs.declared.map.Map.{Map}
use Rattle.reg_alloc.specs.declared.places.Home.{Home}
use Rattle.reg_alloc.specs.declared.places.Home.TheVariants.{Register}
use Rattle.reg_alloc.specs.declared.places.Places.{Places}
use Rattle.place_inject.specs.Fits.{HomesAreUsable}
use Rattle.place_inject.specs.Frames.{Setting, homes_of}
use Rattle.tac_ir.specs.declared.code.Tac.{Tac}
use Rattle.tac_ir.specs.declared.code.TacFun.{TacFun}
use Rattle.rv_select.specs.Selectable.{before}
use Rattle.rv_select.specs.Selected.{IsSelected}
use Rattle.image_starts.specs.Images.{ImagesFit, IsImageOf}
use Rattle.image_starts.proofs.Loaded.{images_have_stacks_law}
use Rattle.image_starts.proofs.Started.{images_have_tables_law}
use Rattle.image_starts.proofs.Texts.{images_are_text_law, images_begin_law}
use Rattle.image_starts.proofs.Words.{images_have_words_law}
use Rattle.image_runs.specs.Asked.{IsLoaded}
use Rattle.image_runs.specs.Made.{AreMade, AreSelected, LinesReport, Made, setting_of, table_in, whole_of}
use Rattle.image_runs.specs.Running.{IsRunnable}
use Rattle.image_runs.specs.Starting.{IsFirst}
use Rattle.image_runs.proofs.Lowered.{lowered_code}
use Rattle.image_runs.proofs.Running.{made_code_runs_law}
use Rattle.image_runs.proofs.Lines.{line_found}
use Rattle.bounds_place.specs.Sizes.{in_range}
use Rattle.bounds_place.specs.declared.sizes.Sizes.{Sizes}
use Rattle.typed_build.specs.Built.{IsBuilt, RunsAsMeant, line_report, report, trap_report}
use Rattle.typed_build.specs.Coded.{HasContainedCode, Selects}
use Rattle.typed_build.specs.Programs.{HasProgram}
use Rattle.typed_build.specs.Text.{code_bytes, filler, missing}
use Rattle.typed_build.specs.Written.{IsWritten, image_in}
use Rattle.typed_build.specs.declared.written.Selected.{Selected}
use Rattle.typed_build.proofs.Builds.{contained, is_built as built}
use Rattle.typed_build.proofs.Framed.{is_frame_of}
use Rattle.typed_build.proofs.Texts.{filled, small_bytes, text_is, there}
use Rattle.typed_build.proofs.Weighing.{same_count}
use Rattle.typed_build.proofs.Writes.{legal, loaded_of, sized, table_long}

-- ---- how many there are

needs_count : (p : Typed) (weight : ℕ → ℕ) (k : ℕ) (ds : List FunDef)
    → length (function_needs p.types weight k ds) ≡ length ds
needs_count p weight k [] = refl
needs_count p weight k (d ∷ ds) = ap suc (needs_count p weight (suc k) ds)

frames_count : (ns : List FunctionNeed) (fs : List Frame) → AreFrames ns fs → length fs ≡ length ns
frames_count [] [] h = refl
frames_count [] (f ∷ fs) h = absurd h
frames_count (n ∷ ns) [] h = absurd h
frames_count (n ∷ ns) (f ∷ fs) h = ap suc (frames_count ns fs h.1)

-- the homes of a function
homes_in : (places : List Places) (fun : ℕ) (l : Places) → slice_get places fun ≡ Some l
    → slice_index_or (map (λ (x : Places). x.homes) places) fun [] ≡ l.homes
homes_in [] fun l e = absurd cc
homes_in (x ∷ places) zero l e = let same : x ≡ l = cc in ap (λ (y : Places). y.homes) same
homes_in (x ∷ places) (suc fun) l e = homes_in places fun l e

homes_past : (places : List Places) (fun : ℕ) → length places ≤ fun
    → slice_index_or (map (λ (x : Places). x.homes) places) fun [] ≡ []
homes_past [] fun h = refl
homes_past (x ∷ places) zero h = absurd (omega (arith, h))
homes_past (x ∷ places) (suc fun) h = homes_past places fun (omega (arith, h))

none_there : (homes : List Home) (t : ℕ) → homes ≡ [] → slice_get homes t ≡ None
none_there [] zero e = refl
none_there [] (suc t) e = refl
none_there (h ∷ homes) t e = absurd cc

-- ---- all of it

module _ (images_fit : ImagesFit) (p : Typed) (sound : Sound p) (t : Tac) (homes : List Places) (s : Selected)
    (given : Selects p s) (code : HasContainedCode s) (has : HasProgram p t homes s) (sizes : Sizes)
    (chosen : in_range sizes ≡ true) (m : Map) (file : List ℕ) (w : IsWritten p s sizes m file) where
  abbrev image : Image
  image = image_in p s sizes m file w

  abbrev made : Made
  made = record {
    program = p;
    code = t;
    places = homes;
    map = m;
    words = s.code.items;
    lines = s.lines.items;
    entries = s.entries.items;
    machine = machine_of image;
    report = report image;
  }

  allowed : Legal p m
  allowed = legal p s given sizes chosen m w.placing

  -- ---- what was selected

  same_table : table_in made ≡ before p
  same_table =
      rw (
        length-map p.globals (global_need p.types),
        length-map p.literals literal_need,
        needs_count p (weight_in p) 0 p.funs,
      ) refl

  selected : AreSelected made
  selected =
      subst (λ b. IsSelected t.funs homes m.frames b p.main s.code.items s.lines.items s.entries.items)
      (sym same_table)
      (subst (λ fs. IsSelected t.funs homes fs (before p) p.main s.code.items s.lines.items s.entries.items)
      (sym w.placing.frames_are) has.selected)

  abbrev setting : Setting
  setting = setting_of made selected

  count : length t.funs ≡ length p.funs
  count = same_count t p has.is_code.formed

  -- the parts of a function
  record Function (fun : ℕ) : Type 0 where
    def : FunDef
    is : slice_get p.funs fun ≡ Some def
    places : Places
    has_places : slice_get homes fun ≡ Some places
    frame : Frame
    has_frame : slice_get s.frames.items fun ≡ Some frame

  function : (fun : ℕ) (f : TacFun) → slice_get t.funs fun ≡ Some f → Function fun
  function fun f e =
      let lt = slice_get_within t.funs fun f e in
      let d = there p.funs fun (omega (arith, lt, count)) in
      let l = there homes fun (omega (arith, lt, has.each)) in
      let g = there s.frames.items fun
      (omega (arith, lt, count, frames_count _ s.frames.items given.frames, needs_count p (weight_in p) 0 p.funs)) in
      record { def = d.0; is = d.1; places = l.0; has_places = l.1; frame = g.0; has_frame = g.1 }

  framed : (fun : ℕ) (frame : Frame) → slice_get s.frames.items fun ≡ Some frame → slice_get m.frames fun ≡ Some frame
  framed fun frame e = ap (λ fs. slice_get fs fun) w.placing.frames_are ∙ e

  -- ---- its lines

  lines_fine : lines_ok 0 (4 * length s.code.items) s.lines.items ≡ true
  lines_fine =
      let c = given.coded in
      test_from_rules 0 (4 * length s.code.items) s.lines.items (starts_from_none s.lines.items) c.ascend c.in_text
      c.kinds

  lines_report : LinesReport made
  lines_report = record {
    traps = λ c l there kind.
        ap (trap_report c) (line_found image (4 * length s.code.items) lines_fine l there)
        ∙ ap (line_report c l) kind;
    sinks = λ c l there kind.
        ap (trap_report c) (line_found image (4 * length s.code.items) lines_fine l there)
        ∙ ap (line_report c l) kind;
  }

  are_made : AreMade made selected
  are_made = record {
    places = has.each;
    entered = given.each ∙ sym count;
    entries = given.entries;
    map = w.placing.entries_are;
    frames = λ fun f e.
        let x = function fun f e in (
          x.frame,
          is_frame_of p sound fun x.def x.is setting m refl refl allowed f x.places x.frame
              (has.frames fun x.def f x.places x.frame x.is e x.has_places x.has_frame)
              (homes_in homes fun x.places x.has_places) (framed fun x.frame x.has_frame),
        );
    room = λ fun f l frame e a b.
        let x = function fun f e in
        let g = ap (λ fs. slice_get fs fun) (sym w.placing.frames_are) ∙ b in
        (has.frames fun x.def f l frame x.is e a g).room;
    lines = lines_report;
  }

  -- ---- the machine that is loaded

  text_small : All (λ b. b < 256) image.text
  text_small = subst (All (λ b. b < 256)) (sym (text_is s.code.items)) (small_bytes (filled s.code.items))

  is_image : IsImageOf p setting s.code.items image
  is_image = record {
    sound = sound;
    legal = allowed;
    needs = refl;
    loaded = refl;
    fine = w.fine;
    bytes = record { text = text_small; initial = w.begins.small };
    text = ap (λ n. (m.text.0, n)) (sized p s given ∙ sym w.placing.text_is);
    table = refl;
    heap = refl;
    stack = refl;
    table_long = table_long p s given sizes chosen m w.placing;
    in_range = given.coded.in_range;
    behind = code_bytes (filler (missing (length s.code.items)));
    begins_with = refl;
    relocates = w.begins.relocates;
    begins = w.begins.initial;
  }

  usable : HomesAreUsable setting
  usable fun n r e = elim (cases_lt fun (length homes)) as (λ _. r < 28) [
    | inl here ↦
        let l = there homes fun here in
        let f = there t.funs fun (omega (arith, here, has.each)) in
        let u = (has.keeps fun f.0 l.0 f.1 l.1).usable n r
        (ap (λ hs. slice_get hs n) (sym (homes_in homes fun l.0 l.1)) ∙ e) in
        omega (arith, u.1)
    | inr past ↦
        let none = none_there (homes_of setting fun) n (homes_past homes fun past) in
        absurd (none-some (Register r) (sym none ∙ e))
  ]

  is_loaded : IsLoaded (whole_of made selected)
  is_loaded = record {
    legal = allowed;
    needs = refl;
    text = images_are_text_law p setting s.code.items image is_image usable;
    stack = images_have_stacks_law p setting s.code.items image is_image;
    table = images_have_tables_law p setting s.code.items image is_image;
  }

  is_first : IsFirst (whole_of made selected) (machine_of image)
  is_first = record {
    fits = λ world turns. images_fit p setting s.code.items image is_image turns;
    counter = images_begin_law p setting s.code.items image is_image 0 (omega (arith, has.start));
    addresses = λ world bytes.
        images_have_words_law image w.fine (contained p s given code sizes chosen m file w) is_image.bytes world bytes;
  }

  runnable : IsRunnable made selected
  runnable =
      let c = has.is_code in
      record {
        made = are_made;
        keeps = has.keeps;
        code = lowered_code (whole_of made selected) sound c.is c.formed c.within;
        within = c.within;
        loaded = is_loaded;
        first = is_first;
        reports = record { exit = λ n. refl; read_fault = refl; write_fault = refl; steps = refl };
      }

  runs : RunsAsMeant p m (loaded_of image) (count_of p)
  runs = made_code_runs_law made selected runnable

  pub is_built : (number : ℕ) → number ≡ count_of p → IsBuilt p file m number
  is_built number counted =
      built p s given code sizes chosen m file w number counted
      (subst (RunsAsMeant p m (loaded_of image)) (sym counted) runs)
