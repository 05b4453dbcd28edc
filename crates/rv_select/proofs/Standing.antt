-- A function stands in the code that becomes of what was appended for it.
use Rattle.std.proofs.Common.{◌≡◌, ℕ, suc, ◌+◌, ◌-◌, ◌*◌, ◌<◌, ◌≤◌, ⊎_elim, ℤ, pos, negsuc, List, [], ◌∷◌, ◌++◌}
use Rattle.std.proofs.Common.{length, Some, refl, sym, ap, ◌∙◌, subst, arith, take}
use Rattle.std.specs.Prelude.{slice_get}
use Rattle.std.specs.List.{All, Contains}
use Rattle.std.proofs.lemmas.Bool.{cases_lt}
use Rattle.std.proofs.lemmas.Int.{ints}
use Rattle.std.proofs.lemmas.List.{length-append, take_all}
use Rattle.std.proofs.lemmas.List.Elements.{All-contains, All-nil, All-weaker, Contains-push}
use Rattle.std.proofs.lemmas.Option.{same_Some, slice_get_within}
use Rattle.elf_file.specs.declared.image.Line.{Line}
use Rattle.obj_mem.specs.declared.map.Frame.{Frame}
use Rattle.purecap_abi.specs.Ends.{before_store, prologue_code}
use Rattle.rv_instr.specs.declared.instr.Instr.{Instr}
use Rattle.rv_instr.specs.declared.instr.Instr.TheVariants.{Cjal}
use Rattle.select_words.specs.Entries.{ParameterWords}
use Rattle.select_words.specs.Selecting.{Selecting}
use Rattle.select_words.specs.Standing.{HasAt}
use Rattle.tac_ir.specs.Costs.{function_cost}
use Rattle.tac_ir.specs.Temps.{behind}
use Rattle.tac_ir.specs.declared.code.TacFun.{TacFun}
use Rattle.tac_ir.specs.declared.code.TacInstr.{TacInstr}
use Rattle.select_words.specs.ContainedCode.{offset_of}
use Rattle.rv_select.specs.Following.{Continues, Appends, Becomes, IsBetween, FunctionIsPut}
use Rattle.rv_emit.specs.Growing.{Size, Links, Puts, line_at, entering, ended, trapping}
use Rattle.rv_emit.specs.Leading.{IsHop, JumpsTo, NoJump, StandsAt, AreLedTo}
use Rattle.rv_select.specs.Noting.{SelectsAll}
use Rattle.rv_select.specs.Selected.{WordsOf, ways, Stands, FunctionStands, is_entered, is_said, is_sunk}
use Rattle.rv_emit.specs.Jump.{Jump}
use Rattle.rv_select.specs.Choosing.{chosen}
use Rattle.rv_select.specs.Parameters.{TakesParameters}
use Rattle.rv_select.specs.Suiting.{AllSuit}
use Rattle.rv_select.specs.declared.function.Function.{Function}
use Rattle.rv_select.proofs.Amid.{IsAmid, ComesTo, Labels, stands_as, has_kept}
use Rattle.rv_emit.proofs.Contained.{get_left}
use Rattle.rv_select.proofs.Noted.{continues_then, continues_more, continues_keeps, appends_then, appends_below}
use Rattle.rv_select.proofs.Noted.{appends_none, Notes, all_marks, noted_all, place, place_first, place_most, splits}
use Rattle.rv_select.proofs.Noted.{label_at, place_last, place_least}
use Rattle.rv_emit.proofs.Appended.{more}

-- the bytes from one word to another
pub hop : (at to : ℕ) → (z : ℤ) × IsHop at to z
hop at to = ⊎_elim
    (λ (h : to < at). (negsuc (4 * at - 4 * to - 1), omega (arith, ints, h)))
    (λ (h : at ≤ to). (pos (4 * to - 4 * at), omega (arith, ints, h)))
    (cases_lt to at)

-- a list that begins as another goes on from there
begins_as : {A : Type 0} (xs ys : List A) → length xs ≤ length ys
    → ((k : ℕ) → k < length xs → slice_get ys k ≡ slice_get xs k) → Continues xs ys
begins_as [] ys le h = record { added = ys; is = refl }
begins_as (x ∷ xs) [] le h = absurd (omega (arith, le))
begins_as (x ∷ xs) (y ∷ ys) le h =
    let e = h 0 (omega arith) in
    let first : y ≡ x = same_Some y x e in
    let r = begins_as xs ys (omega (arith, le)) (λ k lt. h (suc k) (omega (arith, lt))) in
    record { added = r.added; is = ap (λ z. z ∷ ys) first ∙ ap (λ zs. x ∷ zs) r.is }

-- words between two sizes, where what came before and comes behind is known
amid : (first old new whole : Size) → All (λ j. j.at < length first.text) first.links.jumps
    → All (λ j. j.at < length first.text) first.links.calls → length first.text ≤ length old.text
    → Appends (length first.text) (length old.text) first.links.jumps old.links.jumps
    → Appends (length first.text) (length old.text) first.links.calls old.links.calls
    → Continues new.text whole.text → Continues new.links.lines whole.links.lines
    → Appends (length new.text) (length whole.text) new.links.jumps whole.links.jumps
    → Appends (length new.text) (length whole.text) new.links.calls whole.links.calls → IsAmid old new whole
amid first old new whole js cs le j c t l k d = record {
  text = t;
  lines = l;
  jumps_before = appends_below (length first.text) (length old.text) first.links.jumps old.links.jumps js j le;
  jumps_behind = k;
  calls_before = appends_below (length first.text) (length old.text) first.links.calls old.links.calls cs c le;
  calls_behind = d;
}

-- before words are appended: what is entered, and where
pub record Begins (s : Selecting) (frame : Frame) (t : TacFun) (old ready : Size) : Type 0 where
  pub between : IsBetween old
  pub parameters : List Instr
  pub parameter_words : ParameterWords s t.params parameters
  pub text : ready.text ≡ old.text ++ (prologue_code s.homes frame ++ parameters)
  pub links : ready.links ≡ trapping (entering old) (length old.text + length (before_store frame)) t.name 1

module _ (s : Selecting) (frame : Frame) (t : TacFun) (old ready whole new : Size) (b : Begins s frame t old ready)
    (h : SelectsAll s t.code ready whole) (ends : new.links ≡ ended whole)
    (few : length whole.text < length old.text + 262144)
    (led : AreLedTo (StandsAt whole.links.marks) whole.links.jumps whole.text new.text) where
  abbrev word : List TacInstr → ℕ
  word rest = place s t.code ready whole h (length rest)

  notes : Notes (all_marks s t.code ready whole h) ready whole
  notes = noted_all s t.code ready whole h

  ready_jumps : ready.links.jumps ≡ []
  ready_jumps = ap (λ (x : Links). x.jumps) b.links ∙ b.between.jumps

  ready_marks : ready.links.marks ≡ []
  ready_marks = ap (λ (x : Links). x.marks) b.links ∙ b.between.marks

  ready_calls : ready.links.calls ≡ old.links.calls
  ready_calls = ap (λ (x : Links). x.calls) b.links

  long : length ready.text ≡ length old.text + length (prologue_code s.homes frame ++ b.parameters)
  long = ap length b.text ∙ length-append old.text (prologue_code s.homes frame ++ b.parameters)

  no_jumps : (n : ℕ) → All (λ j. j.at < n) ready.links.jumps
  no_jumps n = subst (All (λ (j : Jump). j.at < n)) (sym ready_jumps) (All-nil (λ (j : Jump). j.at < n))

  calls_below : All (λ j. j.at < length ready.text) ready.links.calls
  calls_below =
      subst (All (λ (j : Jump). j.at < length ready.text)) (sym ready_calls)
      (All-weaker (λ (j : Jump). j.at < length old.text) (λ (j : Jump). j.at < length ready.text)
      (λ j lt. omega (arith, lt, long)) old.links.calls b.between.calls)

  -- the jumps are from words behind the parameters
  from_behind : (at l : ℕ) → JumpsTo whole.links.jumps at l → length ready.text ≤ at
  from_behind at l j =
      All-contains (λ (j : Jump). length ready.text ≤ j.at) whole.links.jumps (record { at = at; to = l })
      (let a = notes.jumps in
      subst (All (λ (j : Jump). length ready.text ≤ j.at)) (sym (a.is ∙ ap (λ js. js ++ a.added) ready_jumps))
      (All-weaker (λ (j : Jump). (length ready.text ≤ j.at) × (j.at < length whole.text))
      (λ (j : Jump). length ready.text ≤ j.at) (λ j b. b.0) a.added a.inside)) j.some

  grown : length ready.text ≤ length whole.text
  grown = continues_more ready.text whole.text notes.text

  module _ (code : List Instr) (lines : List Line) (entries : List ℕ) (becomes : Becomes new code lines entries) where
    abbrev Lands : (l place : ℕ) → Type 0
    Lands = Labels code (is_said lines) (is_entered entries) s t word

    same_calls : new.links.calls ≡ whole.links.calls
    same_calls = ap (λ (x : Links). x.calls) ends

    lands : (at l link to : ℕ) (z y : ℤ) → slice_get whole.text at ≡ Some (Cjal link z)
        → JumpsTo whole.links.jumps at l → slice_get new.text at ≡ Some (Cjal link y) → Lands l to → IsHop at to y
    lands at l link to z y e j now q =
        let x = hop at to in
        let stands : StandsAt whole.links.marks l to =
        subst (StandsAt whole.links.marks l) (sym q.2) (label_at s l t.code ready whole h ready_marks q.0 q.1) in
        let most = place_most s t.code ready whole h (length (behind l t.code)) in
        let least = place_least s t.code ready whole h (length (behind l t.code)) in
        let is = q.2 in
        let lt = slice_get_within whole.text at (Cjal link z) e in
        let low = from_behind at l j in
        let there = led.led at l to (Cjal link z) x.0 j stands e
        (record { ahead = omega (arith, few, most, is, low, long); back = omega (arith, few, lt, least, is, long) }) x.1 in
        let same : x.0 ≡ y = same_Some x.0 y
        (ap offset_of (same_Some (Cjal link x.0) (Cjal link y) (sym there ∙ now))) in
        subst (IsHop at to) same x.1

    comes : ComesTo Lands (is_entered entries) whole code
    comes = record {
      kept = λ k i e nj nc.
          becomes.kept k i (led.others k nj ∙ e) (subst (λ js. NoJump js k) (sym same_calls) nc);
      jumped = λ at l link z e j nc.
          let y = led.kinds at (Cjal link z) e in
          record {
            by = y.0;
            there = becomes.kept at (Cjal link y.0) y.1 (subst (λ js. NoJump js at) (sym same_calls) nc);
            leads = λ to q. lands at l link to z y.0 e j y.1 q;
          };
      called = λ at fun link z e nj j.
          becomes.called at fun link z (led.others at nj ∙ e) (subst (λ js. JumpsTo js at fun) (sym same_calls) j);
    }

    later_lines : (l : Line) → Contains whole.links.lines l → Contains lines l
    later_lines l c = becomes.said l (subst (λ (x : Links). Contains x.lines l) (sym ends) c)

    each : (before : List TacInstr) (i : TacInstr) (rest : List TacInstr) → t.code ≡ before ++ i ∷ rest
        → Stands code (is_said lines) (is_entered entries) s t word i rest
    each before i rest e =
        let p = splits s before t.code i rest ready whole e h in
        let a = noted_all s before ready p.from p.first in
        let c = noted_all s rest p.to whole p.later in
        let among = amid ready p.from p.to whole (no_jumps (length ready.text)) calls_below
        (continues_more ready.text p.from.text a.text) a.jumps a.calls c.text c.lines c.jumps c.calls in
        let w = stands_as code (is_said lines) (is_entered entries) s t word p.from p.to whole among comes
        (λ at pos m. later_lines (line_at at pos 0) m) p.own.added p.own.is i p.own.are in
        let size = ap length p.own.is ∙ length-append p.from.text p.own.added in
        let from = p.at_own in
        let to = p.at_later in
        let same = w.long in
        record {
          words = w.words;
          are = subst (λ n. WordsOf (ways code (is_said lines) (is_entered entries) s t word n) s i w.words)
              (sym from) w.are;
          has = subst (λ n. HasAt code n w.words) (sym from) w.has;
          next = omega (arith, from, to, same, size);
        }

    function_stands : FunctionStands code (is_said lines) (is_sunk lines) (is_entered entries) s frame t word
        (length old.text)
    function_stands =
        let front = prologue_code s.homes frame ++ b.parameters in
        let sink = line_at (length old.text + length (before_store frame)) t.name 1 in
        let none = appends_none (length old.text) (length old.text) old.links.jumps old.links.jumps refl in
        let no_calls = appends_none (length old.text) (length old.text) old.links.calls old.links.calls refl in
        let no_jump = subst (All (λ (j : Jump). j.at < length old.text)) (sym b.between.jumps)
        (All-nil (λ (j : Jump). j.at < length old.text)) in
        let among = amid old old ready whole no_jump b.between.calls (omega arith) none no_calls notes.text notes.lines
        notes.jumps notes.calls in
        let len = led.len in
        let more = becomes.longer in
        record {
          parameters = b.parameters;
          parameter_words = b.parameter_words;
          begins = has_kept Lands (is_entered entries) old ready whole code among comes front b.text
              (ap (λ (x : Links). x.jumps) b.links) ready_calls;
          sinks = later_lines sink (continues_keeps ready.links.lines whole.links.lines sink notes.lines
              (subst (λ (x : Links). Contains x.lines sink) (sym b.links) (Contains-push old.links.lines sink)));
          first = place_first s t.code ready whole h ∙ long;
          each = each;
          inside = λ before rest e.
              let most = place_most s t.code ready whole h (length rest) in omega (arith, most, len, more);
        }

  kept_items : (k : ℕ) → k < length old.text → slice_get new.text k ≡ slice_get old.text k
  kept_items k lt =
      led.others k (let a = notes.jumps in
      subst (λ js. NoJump js k) (sym (a.is ∙ ap (λ js. js ++ a.added) ready_jumps))
      (All-weaker (λ (j : Jump). (length ready.text ≤ j.at) × (j.at < length whole.text)) (λ (j : Jump). j.at ≡ k → ⊥)
      (λ j in_it e. let low = in_it.0 in omega (arith, low, e, lt, long)) a.added a.inside))
      ∙ ap (λ x. slice_get x k) notes.text.is ∙ get_left ready.text notes.text.added k (omega (arith, lt, long))
      ∙ ap (λ x. slice_get x k) b.text
      ∙ get_left old.text (prologue_code s.homes frame ++ b.parameters) k lt

  pub function_is_put : FunctionIsPut s frame t old new
  function_is_put =
      let len = led.len in
      let low : length old.text ≤ length ready.text = omega (arith, long) in
      let none = appends_none (length old.text) (length ready.text) old.links.calls ready.links.calls ready_calls in
      let all_calls = appends_then (length old.text) (length ready.text) (length whole.text) old.links.calls
      ready.links.calls whole.links.calls none notes.calls low grown in
      let calls : Appends (length old.text) (length new.text) old.links.calls new.links.calls =
      subst (λ n. Appends (length old.text) n old.links.calls new.links.calls) (sym len)
      (subst (λ (x : Links). Appends (length old.text) (length whole.text) old.links.calls x.calls) (sym ends)
      all_calls) in
      let sink = line_at (length old.text + length (before_store frame)) t.name 1 in
      let first : Continues old.links.lines ready.links.lines =
      record { added = sink ∷ []; is = ap (λ (x : Links). x.lines) b.links } in
      let lines = continues_then old.links.lines ready.links.lines whole.links.lines first notes.lines in
      record {
        follows = record {
          text = begins_as old.text new.text (omega (arith, long, grown, len)) kept_items;
          lines = subst (λ (x : Links). Continues old.links.lines x.lines) (sym ends) lines;
          calls = calls;
          far = ap (λ (x : Links). x.far) ends ∙ notes.far ∙ ap (λ (x : Links). x.far) b.links;
        };
        between = record {
          marks = ap (λ (x : Links). x.marks) ends;
          jumps = ap (λ (x : Links). x.jumps) ends;
          calls = appends_below (length old.text) (length new.text) old.links.calls new.links.calls b.between.calls
              calls (omega (arith, long, grown, len));
        };
        entered = ap (λ (x : Links). x.entered) ends ∙ notes.entered ∙ ap (λ (x : Links). x.entered) b.links;
        word = word;
        ends = place_last s t.code ready whole h ∙ sym len;
        stands = λ code lines entries becomes. function_stands code lines entries becomes;
      }

-- what a function's selection appends: its prologue, its parameters, and all of its instructions
pub function_put : (f : Function) (t : TacFun) (old begun ready whole new : Size) (all : List TacInstr) (n : ℕ)
    → all ≡ t.code
    → length all ≤ n → begun.text ≡ old.text ++ prologue_code f.places.now.homes f.frame.now
    → begun.links ≡ trapping (entering old) (length old.text + length (before_store f.frame.now)) t.name 1
    → (TakesParameters f t.params → Puts (ParameterWords (chosen f) t.params) begun ready) → ready.links ≡ begun.links
    → (AllSuit f all → SelectsAll (chosen f) (take n all) ready whole) → new.links ≡ ended whole
    → AreLedTo (StandsAt whole.links.marks) whole.links.jumps whole.text new.text
    → (function_cost t < 262144 → length whole.text < length old.text + 262144)
    → IsBetween old → AllSuit f t.code → TakesParameters f t.params → function_cost t < 262144
    → FunctionIsPut (chosen f) f.frame.now t old new
function_put f t old begun ready whole new all n is le text links words same selects ends led few between suit takes
    short =
    let p = words takes in
    let every = subst (AllSuit f) (sym is) suit in
    let front = prologue_code f.places.now.homes f.frame.now in
    function_is_put (chosen f) f.frame.now t old ready whole new (record {
      between = between;
      parameters = p.added;
      parameter_words = p.are;
      text = more old.text front p.added begun.text ready.text text p.is;
      links = same ∙ links;
    }) (subst (λ xs. SelectsAll (chosen f) xs ready whole) (take_all n all le ∙ is) (selects every)) ends (few short) led
