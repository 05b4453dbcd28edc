-- The stretch of a plain function: its prologue and its parameters, and then the words of its instructions.
use Rattle.std.proofs.Common.{◌≡◌, ℕ, zero, suc, ◌+◌, ◌-◌, ◌*◌, ◌/◌, ◌<◌, ◌≤◌, pos, true, false, List, [], ◌∷◌}
use Rattle.std.proofs.Common.{◌++◌, length, Some, refl, sym, ap, ◌∙◌, subst, arith, cond, if◌then◌else◌, take, drop}
use Rattle.std.proofs.Common.{⊎_elim, append_assoc}
use Rattle.std.specs.Prelude.{slice_get, slice_index, min, map, replicate}
use Rattle.std.specs.List.{All, count_by}
use Rattle.std.proofs.Math.Seq.{take-add}
use Rattle.std.proofs.lemmas.Bool.{cases_lt, lt-ltb, le-ltb}
use Rattle.std.proofs.lemmas.List.{drop-drop, drop_at, drop_more, get_or-map, get_or_at, length-append, length-map}
use Rattle.std.proofs.lemmas.List.{length-replicate}
use Rattle.std.proofs.lemmas.List.Elements.{All-get_or}
use Rattle.std.proofs.lemmas.List.Sums.{sum_by-cons, sum_by-take-le}
use Rattle.std.proofs.lemmas.Option.{same_Some, slice_get-get_or, slice_get_within, get_or_from_slice_get}
use Rattle.ck_base.specs.declared.positions.Pos.{Pos}
use Rattle.cap_machine.specs.ContainedText.{is_plain_jump}
use Rattle.elf_file.specs.declared.image.Line.{Line}
use Rattle.obj_mem.specs.declared.map.Frame.{Frame}
use Rattle.purecap_abi.specs.Ends.{prologue_code, is_store}
use Rattle.purecap_abi.specs.Saving.{keeps_stack}
use Rattle.reg_alloc.specs.Placed.{IsRegister}
use Rattle.reg_alloc.specs.declared.places.Places.{Places}
use Rattle.rv_instr.specs.declared.instr.Instr.{Instr}
use Rattle.rv_instr.specs.declared.instr.Instr.TheVariants.{Cjal, Cjalr}
use Rattle.rv_emit.specs.Growing.{AreEntries}
use Rattle.rv_select.specs.Selected.{Before, EndsAt, FunctionStands, IsSelected, Ways, WordsOf, in_function, is_entered}
use Rattle.rv_select.specs.Selected.{is_said, is_sunk, ways}
use Rattle.select_words.specs.ContainedCode.{EndsInPlainJump}
use Rattle.select_words.specs.Selecting.{Selecting}
use Rattle.select_words.specs.Standing.{HasAt}
use Rattle.tac_ir.specs.declared.code.TacFun.{TacFun}
use Rattle.tac_ir.specs.declared.code.TacInstr.{TacInstr}
use Rattle.tac_ir.specs.declared.code.TacInstr.TheVariants as instr
use Rattle.plain_functions.specs.Stretches.{is_load, loads_in, next_entry, stores_in, stretch}
use Rattle.plain_functions.specs.Plain.{IsPlain, is_plain, is_return, returns}
use Rattle.plain_functions.specs.Keeping.{KeepsToRegisters, PlainFunctionsKeepToRegisters}
use Rattle.plain_functions.proofs.Ends.{parameters_touch, prologue_touches, returned}
use Rattle.plain_functions.proofs.Quiet.{Touches, branched, comparison, constant, conversion, copied, integer}
use Rattle.plain_functions.proofs.Quiet.{is_quiet, quiet, quiet_touches, touch_both, touch_none, touch_parts}

-- ---- lists

drop_front : {A : Type 0} (xs ys : List A) (k : ℕ) → k < length xs → slice_get (xs ++ ys) k ≡ slice_get xs k
drop_front [] ys k h = absurd (omega arith)
drop_front (x ∷ xs) ys zero h = refl
drop_front (x ∷ xs) ys (suc k) h = drop_front xs ys k (omega (arith, h))

-- words that stand in a code stand in it with more behind
has_front : (code more : List Instr) (at : ℕ) (ws : List Instr) → HasAt code at ws → HasAt (code ++ more) at ws
has_front code more at [] h = tt
has_front code more at (i ∷ is) h =
    (drop_front code more at (slice_get_within code at i h.0) ∙ h.0, has_front code more (at + 1) is h.1)

-- and are so many words from there on
has_words : (code : List Instr) (at : ℕ) (ws : List Instr) → HasAt code at ws → take (length ws) (drop at code) ≡ ws
has_words code at [] h = refl
has_words code at (i ∷ is) h =
    ap (take (suc (length is))) (drop_more code at i (slice_get_within code at i h.0)
    ∙ ap (λ j. j ∷ drop (at + 1) code) (get_or_from_slice_get code at i i h.0))
    ∙ ap (λ js. i ∷ js) (has_words code (at + 1) is h.1)

-- a part of quiet words is quiet
some_quiet : (n : ℕ) (ws : List Instr) → quiet ws ≡ true → Touches 0 0 (take n ws)
some_quiet n ws q =
    let all = quiet_touches ws q in
    let s : stores_in (take n ws) ≤ stores_in ws = sum_by-take-le (λ i. cond (is_store i) 1 0) ws n in
    let l : loads_in (take n ws) ≤ loads_in ws = sum_by-take-le (λ i. cond (is_load i) 1 0) ws n in
    let a = all.stored in
    let b = all.loaded in
    record { stored = omega (arith, s, a); loaded = omega (arith, l, b) }

-- ---- words of a text from one place to another

record Between (text : List Instr) (from to stores loads : ℕ) : Type 0 where
  count : ℕ
  ends : from + count ≡ to
  touch : Touches stores loads (take count (drop from text))

joined : (text : List Instr) (from mid to a b c d m n : ℕ) → a + c ≤ m → b + d ≤ n → Between text from mid a b
    → Between text mid to c d → Between text from to m n
joined text from mid to a b c d m n p q h k =
    let x = h.ends in
    let y = k.ends in
    record {
      count = h.count + k.count;
      ends = omega (arith, x, y);
      touch = touch_parts a b c d m n (take (h.count + k.count) (drop from text)) (take h.count (drop from text))
          (take k.count (drop mid text))
          (take-add h.count k.count (drop from text) ∙ ap (λ xs. take h.count (drop from text) ++ take k.count xs)
          (drop-drop h.count from text ∙ ap (λ n. drop n text) x)) p q h.touch k.touch;
    }

there : (text : List Instr) (from to a b : ℕ) (ws : List Instr) → HasAt text from ws → from + length ws ≡ to
    → Touches a b ws → Between text from to a b
there text from to a b ws h e t =
    record { count = length ws; ends = e; touch = subst (Touches a b) (sym (has_words text from ws h)) t }

-- ---- the words of an instruction

abbrev loads_of : TacInstr → ℕ
loads_of i = if is_return i then 1 else 0

abbrev IsPlainOne : TacInstr → Type 0
IsPlainOne i = is_plain i ≡ true

module _ (y : Ways) (s : Selecting) (registers : All IsRegister s.homes)
    (none : (f : Frame) → s.frame ≡ Some f → keeps_stack f.align ≡ false) where
  words_touch : (i : TacInstr) (ws : List Instr) → is_plain i ≡ true → WordsOf y s i ws → Touches 0 (13 * loads_of i) ws
  words_touch (instr.Const to k v) ws p w = quiet_touches ws (constant s registers to v ws w.1.1)
  words_touch (instr.Copy to from) ws p w = quiet_touches ws (copied s registers to from ws w.1)
  words_touch (instr.Int o k to a b) ws p w = quiet_touches ws (integer s registers o k to a b ws w.1)
  words_touch (instr.Cmp o k to a b) ws p w = quiet_touches ws (comparison s registers o k to a b ws w.1)
  words_touch (instr.Convert to from old new) ws p w =
      quiet_touches ws (conversion s registers to from old new ws w.1)
  words_touch (instr.Label l) ws p w = quiet_touches ws (ap quiet w.1)
  words_touch (instr.Jump l) ws p w = quiet_touches ws (ap quiet w.are)
  words_touch (instr.Branch on when l) ws p w =
      quiet_touches ws (branched s registers on when w.offset w.finds ws w.branches)
  words_touch instr.Turn ws p w = quiet_touches ws (ap quiet w.1)
  words_touch (instr.Return v) ws p w = returned s registers v ws none w.1
  words_touch i ws p w = absurd cc

-- ---- a function

module _ (code more : List Instr) (Says Sinks : (word : ℕ) → Pos → Type 0) (Entered : (fun at : ℕ) → Type 0)
    (s : Selecting) (frame : Frame) (t : TacFun) (word : List TacInstr → ℕ) (entry : ℕ)
    (stands : FunctionStands code Says Sinks Entered s frame t word entry) (is : s.frame ≡ Some frame)
    (plain : IsPlain t s.homes) (none : keeps_stack frame.align ≡ false) where
  abbrev text : List Instr
  text = code ++ more

  no_stack : (f : Frame) → s.frame ≡ Some f → keeps_stack f.align ≡ false
  no_stack f e = subst (λ (g : Frame). keeps_stack g.align ≡ false) (same_Some frame f (sym is ∙ e)) none

  is_plain_at : (before : List TacInstr) (i : TacInstr) (rest : List TacInstr) → t.code ≡ before ++ i ∷ rest
      → is_plain i ≡ true
  is_plain_at before i rest e =
      let long = length-append before (i ∷ rest) in
      subst IsPlainOne (get_or_at before i rest i (length before) refl)
      (All-get_or IsPlainOne (before ++ i ∷ rest) (length before) i (omega (arith, long))
      (subst (All IsPlainOne) e plain.code))

  -- the words of a rest of the instructions
  rest_touches : (before rest : List TacInstr) → t.code ≡ before ++ rest
      → Between text (word rest) (word []) 0 (13 * count_by is_return rest)
  rest_touches before [] e = record { count = 0; ends = omega arith; touch = touch_none }
  rest_touches before (i ∷ rest) e =
      let here = stands.each before i rest e in
      let own = words_touch (ways code Says Entered s t word (word (i ∷ rest))) s plain.registers no_stack i here.words
      (is_plain_at before i rest e) here.are in
      let sum : count_by is_return (i ∷ rest) ≡ loads_of i + count_by is_return rest = sum_by-cons loads_of i rest in
      joined text (word (i ∷ rest)) (word rest) (word []) 0 (13 * loads_of i) 0 (13 * count_by is_return rest) 0
      (13 * count_by is_return (i ∷ rest)) (omega arith) (omega (arith, sum))
      (there text (word (i ∷ rest)) (word rest) 0 (13 * loads_of i) here.words
      (has_front code more (word (i ∷ rest)) here.words here.has) here.next own)
      (rest_touches (before ++ i ∷ []) rest (e ∙ sym (append_assoc before (i ∷ []) rest)))

  -- all of its words
  whole : Between text entry (word []) 13 (13 * returns t + t.params)
  whole =
      let front = prologue_code s.homes frame ++ stands.parameters in
      let begins = touch_both 13 0 0 t.params 13 t.params (prologue_code s.homes frame) stands.parameters (omega arith)
      (omega arith) (prologue_touches s.homes frame none)
      (parameters_touch s plain.registers t.params stands.parameters stands.parameter_words) in
      joined text entry (word t.code) (word []) 13 t.params 0 (13 * returns t) 13 (13 * returns t + t.params)
      (omega arith) (omega arith)
      (there text entry (word t.code) 13 t.params front (has_front code more entry front stands.begins)
      (sym stands.first) begins) (rest_touches [] t.code refl)

-- ---- the words behind the last function

jump_quiet : (i : Instr) → is_plain_jump i ≡ true → is_quiet i ≡ true
jump_quiet (Cjal rd z) h = refl
jump_quiet (Cjalr rd rs1 z) h = refl
jump_quiet i h = absurd cc

filling_quiet : (n : ℕ) → quiet (replicate n (Cjal 0 (pos 0))) ≡ true
filling_quiet zero = refl
filling_quiet (suc n) = filling_quiet n

module _ (code : List Instr) (end : ℕ) (last : end + 1 ≡ length code) (jump : EndsInPlainJump code) (more : ℕ) where
  abbrev filling : List Instr
  filling = replicate more (Cjal 0 (pos 0))

  behind_last : Between (code ++ filling) end (length code + more) 0 0
  behind_last =
      let e = jump.end in
      let at_end : jump.at ≡ end = omega (arith, e, last) in
      let lt : end < length code = omega (arith, last) in
      let here : slice_get (code ++ filling) end ≡ Some jump.last =
      drop_front code filling end lt ∙ ap (slice_get code) (sym at_end) ∙ jump.is in
      let from : drop end (code ++ filling) ≡ jump.last ∷ filling =
      drop_more (code ++ filling) end jump.last (slice_get_within (code ++ filling) end jump.last here)
      ∙ ap (λ j. j ∷ drop (end + 1) (code ++ filling))
      (get_or_from_slice_get (code ++ filling) end jump.last jump.last here)
      ∙ ap (λ js. jump.last ∷ js) (drop_at code filling (end + 1) (sym last)) in
      record {
        count = 1 + more;
        ends = omega (arith, last);
        touch = subst (λ ws. Touches 0 0 (take (1 + more) ws)) (sym from)
            (some_quiet (1 + more) (jump.last ∷ filling)
            (ap (λ b. if b then quiet filling else false) (jump_quiet jump.last jump.plain) ∙ filling_quiet more));
      }

-- ---- the next entry

module _ (place end : ℕ) where
  is_nearer : (e : ℕ) (es : List ℕ) → place < e → next_entry place end (e ∷ es) ≡ min e (next_entry place end es)
  is_nearer e es l =
      ap (λ b. if b then min e (next_entry place end es) else next_entry place end es) (lt-ltb place e l)

  is_past : (e : ℕ) (es : List ℕ) → e ≤ place → next_entry place end (e ∷ es) ≡ next_entry place end es
  is_past e es l =
      ap (λ b. if b then min e (next_entry place end es) else next_entry place end es) (le-ltb place e l)

  -- it is no further than the end
  next_most : (es : List ℕ) → next_entry place end es ≤ end
  next_most [] = omega arith
  next_most (e ∷ es) = ⊎_elim
      (λ (l : place < e).
      let n = is_nearer e es l in let r = next_most es in omega (arith, n, r))
      (λ (l : e ≤ place). let n = is_past e es l in let r = next_most es in omega (arith, n, r))
      (cases_lt place e)

  -- nor than any greater entry
  next_before : (es : List ℕ) (k : ℕ) → k < length es → place < slice_index es k
      → next_entry place end es ≤ slice_index es k
  next_before [] k lt p = absurd (omega (arith, lt))
  next_before (e ∷ es) zero lt p = let n = is_nearer e es p in omega (arith, n)
  next_before (e ∷ es) (suc k) lt p = ⊎_elim
      (λ (l : place < e).
      let n = is_nearer e es l in
      let r = next_before es k (omega (arith, lt)) p in omega (arith, n, r))
      (λ (l : e ≤ place).
      let n = is_past e es l in
      let r = next_before es k (omega (arith, lt)) p in omega (arith, n, r))
      (cases_lt place e)

  -- and no greater entry is before it
  next_least : (m : ℕ) (es : List ℕ) → m ≤ end
      → ((k : ℕ) → k < length es → place < slice_index es k → m ≤ slice_index es k) → m ≤ next_entry place end es
  next_least m [] le h = le
  next_least m (e ∷ es) le h =
      let r = next_least m es le (λ k lt p. h (suc k) (omega (arith, lt)) p) in
      ⊎_elim
      (λ (l : place < e).
      let n = is_nearer e es l in let f = h 0 (omega arith) l in omega (arith, n, r, f))
      (λ (l : e ≤ place). let n = is_past e es l in omega (arith, n, r))
      (cases_lt place e)

-- ---- the stretch

record Goes (text : List Instr) (base entry next stores loads : ℕ) : Type 0 where
  to : ℕ
  is : next ≡ base + 4 * to
  touch : Between text entry to stores loads

stretch_keeps : (f : TacFun) (text : List Instr) (base entry : ℕ) (entries : List ℕ)
    → Goes text base entry (next_entry (base + 4 * entry) (base + 4 * length text) entries) 13
    (13 * returns f + f.params)
    → KeepsToRegisters f (stretch base text entries (base + 4 * entry))
stretch_keeps f text base entry entries g =
    let is = g.is in
    let ends = g.touch.ends in
    let next = next_entry (base + 4 * entry) (base + 4 * length text) entries in
    let count : g.touch.count ≡ (next - (base + 4 * entry)) / 4 = omega (arith, is, ends) in
    let from : entry ≡ (base + 4 * entry - base) / 4 = omega arith in
    let Keeps : List Instr → Type 0 = Touches 13 (13 * returns f + f.params) in
    let t = subst (λ n. Keeps (take n (drop ((base + 4 * entry - base) / 4) text))) count
    (subst (λ n. Keeps (take g.touch.count (drop n text))) from g.touch.touch) in
    let l : loads_in (stretch base text entries (base + 4 * entry)) ≤ 13 * returns f + f.params = t.loaded in
    record { stores = t.stored; loads = omega (arith, l) }

module _ (funs : List TacFun) (places : List Places) (frames : List Frame) (table : Before) (main : ℕ)
    (code : List Instr) (lines : List Line) (entries : List ℕ)
    (sel : IsSelected funs places frames table main code lines entries) (each : length entries ≡ length funs)
    (are : AreEntries (length code) entries) (jump : EndsInPlainJump code) (base more : ℕ) where
  abbrev filled : List Instr
  filled = code ++ replicate more (Cjal 0 (pos 0))

  abbrev moved : List ℕ
  moved = map (λ at. base + at) entries

  long : length filled ≡ length code + more
  long = length-append code (replicate more (Cjal 0 (pos 0)))
      ∙ ap (λ n. length code + n) (length-replicate more (Cjal 0 (pos 0)))

  many : length moved ≡ length entries
  many = length-map entries (λ at. base + at)

  moved_at : (k : ℕ) → k < length entries → slice_index moved k ≡ base + slice_index entries k
  moved_at k lt = get_or-map (λ at. base + at) entries k 0 0 lt

  in_words : (k : ℕ) → k < length entries → slice_index entries k ≡ 4 * (slice_index entries k / 4)
  in_words k lt = let w = are.whole k lt in omega (arith, w)

  is_entry : (k : ℕ) → k < length entries → is_entered entries k (slice_index entries k / 4)
  is_entry k lt = slice_get-get_or entries k 0 lt ∙ ap Some (in_words k lt)

  module _ (fun : ℕ) (f : TacFun) (l : Places) (frame : Frame) (is_fun : slice_get funs fun ≡ Some f)
      (is_place : slice_get places fun ≡ Some l) (is_frame : slice_get frames fun ≡ Some frame)
      (entered : fun < length entries) (plain : IsPlain f l.homes) (low : frame.align ≤ 16) where
    -- the word at which it is entered
    abbrev entry : ℕ
    entry = slice_index entries fun / 4

    at_four : slice_index entries fun ≡ 4 * entry
    at_four = in_words fun entered

    own : Between filled entry (sel.word fun []) 13 (13 * returns f + f.params)
    own = whole code (replicate more (Cjal 0 (pos 0))) (is_said lines) (is_sunk lines) (is_entered entries)
        (in_function table l.homes frame (sel.numbers fun)) frame f (sel.word fun) entry
        (sel.functions fun entry f l frame is_fun is_place is_frame (is_entry fun entered)) refl plain
        (le-ltb 16 frame.align low)

    ends : EndsAt entries (length code - 1) fun (sel.word fun [])
    ends = sel.ends fun (omega (arith, entered, each))

    -- a greater entry is one of a later function
    is_later : (k : ℕ) → k < length moved → base + 4 * entry < slice_index moved k → fun < k
    is_later k lt p = ⊎_elim (λ (h : fun < k). h) (λ (h : k ≤ fun). absurd (never h)) (cases_lt fun k)
      where
        at_k : slice_index moved k ≡ base + slice_index entries k
        at_k = moved_at k (omega (arith, lt, many))

        never : k ≤ fun → ⊥
        never h = ⊎_elim
            (λ (q : k < fun). let a = are.ascend k fun q entered in omega (arith, a, at_k, at_four, p))
            (λ (q : fun ≤ k).
            let e : k ≡ fun = omega (arith, h, q) in
            let same = ap (slice_index entries) e in omega (arith, same, at_k, at_four, p))
            (cases_lt k fun)

    abbrev next : ℕ
    next = next_entry (base + 4 * entry) (base + 4 * length filled) moved

    later : (k : ℕ) → k < length moved → fun < k → slice_index moved (suc fun) ≤ slice_index moved k
    later k in_it h =
        let a = moved_at k (omega (arith, in_it, many)) in
        let b = moved_at (suc fun) (omega (arith, h, in_it, many)) in
        ⊎_elim
        (λ (q : suc fun < k).
        let u = are.ascend (suc fun) k q (omega (arith, in_it, many)) in omega (arith, a, b, u))
        (λ (q : k ≤ suc fun).
        let e : k ≡ suc fun = omega (arith, h, q) in
        let same = ap (slice_index moved) e in omega (arith, same))
        (cases_lt (suc fun) k)

    -- the next function is entered where the words end
    onward : suc fun < length entries → Goes filled base entry next 13 (13 * returns f + f.params)
    onward lt =
        let to = slice_index entries (suc fun) / 4 in
        let four = in_words (suc fun) lt in
        let inside = are.inside (suc fun) lt in
        let up = are.ascend fun (suc fun) (omega arith) lt in
        let at_next = moved_at (suc fun) lt in
        let most = next_before (base + 4 * entry) (base + 4 * length filled) moved (suc fun) (omega (arith, lt, many))
        (omega (arith, at_next, at_four, up)) in
        let least = next_least (base + 4 * entry) (base + 4 * length filled) (slice_index moved (suc fun)) moved
        (omega (arith, at_next, inside, long)) (λ k in_it p. later k in_it (is_later k in_it p)) in
        record {
          to = to;
          is = omega (arith, most, least, at_next, four);
          touch = subst (λ n. Between filled entry n 13 (13 * returns f + f.params))
              (ends.next to (is_entry (suc fun) lt)) own;
        }

    -- or there is none, and the text ends
    at_last : suc fun ≡ length entries → Goes filled base entry next 13 (13 * returns f + f.params)
    at_last e =
        let end_of_all = base + 4 * length filled in
        let most = next_most (base + 4 * entry) end_of_all moved in
        let least = next_least (base + 4 * entry) end_of_all end_of_all moved (omega arith)
        (λ k in_it p. let h = is_later k in_it p in absurd (omega (arith, h, in_it, e, many))) in
        let end = sel.word fun [] in
        let at_end = ends.last e in
        let one = jump.end in
        let last : end + 1 ≡ length code = omega (arith, at_end, one) in
        record {
          to = length filled;
          is = omega (arith, most, least);
          touch = joined filled entry end (length filled) 13 (13 * returns f + f.params) 0 0 13
              (13 * returns f + f.params) (omega arith) (omega arith) own
              (subst (λ n. Between filled end n 0 0) (sym long) (behind_last code end last jump more));
        }

    keeps : KeepsToRegisters f (stretch base filled moved (base + 4 * entry))
    keeps = stretch_keeps f filled base entry moved (⊎_elim (λ (h : suc fun < length entries). onward h)
        (λ (h : length entries ≤ suc fun). at_last (omega (arith, h, entered))) (cases_lt (suc fun) (length entries)))

pub plain_functions_keep : PlainFunctionsKeepToRegisters
plain_functions_keep funs places frames table main code lines entries sel each are jump low base more fun entry f l
    is_fun
    is_place enters plain =
    let own = low fun f l is_fun is_place plain in
    let moved = map (λ at. base + at) entries in
    let text = code ++ replicate more (Cjal 0 (pos 0)) in
    let lt : fun < length entries = let i = slice_get_within funs fun f is_fun in omega (arith, i, each) in
    let w = are.whole fun lt in
    let here = get_or_from_slice_get moved fun entry 0 enters in
    let at = get_or-map (λ at. base + at) entries fun 0 0 lt in
    let there : base + 4 * (slice_index entries fun / 4) ≡ entry = omega (arith, w, here, at) in
    subst (λ n. KeepsToRegisters f (stretch base text moved n)) there
    (keeps funs places frames table main code lines entries sel each are jump base more fun f l own.frame is_fun
    is_place
    own.there lt plain own.low)
