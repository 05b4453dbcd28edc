-- Functions stand together in a whole code.
use Rattle.std.proofs.Common.{◌≡◌, ℕ, zero, suc, ◌+◌, ◌*◌, ◌<◌, ◌≤◌, ⊎_elim, ℤ, pos, Bool, true, false, List, [], ◌∷◌}
use Rattle.std.proofs.Common.{◌++◌, length, Option, Some, None, refl, sym, ap, ◌∙◌, subst, arith, get_or, take}
use Rattle.std.proofs.Common.{eq-eqb, if◌then◌else◌}
use Rattle.std.specs.Prelude.{slice_get, ◌-◌, ◌==◌}
use Rattle.std.specs.List.{All, Contains}
use Rattle.std.proofs.lemmas.Bool.{cases_eq, cases_lt, ne_eqb}
use Rattle.std.proofs.lemmas.List.{length-append, length-take-le, take_more}
use Rattle.std.proofs.lemmas.List.Elements.{All-append, All-nil, All-push, All-weaker, All-contains, Contains-append_left}
use Rattle.std.proofs.lemmas.List.Elements.{Contains-push}
use Rattle.std.proofs.lemmas.Option.{same_Some, slice_get_within, get_or_from_slice_get}
use Rattle.elf_file.specs.declared.image.Line.{Line}
use Rattle.obj_mem.specs.declared.map.Frame.{Frame}
use Rattle.reg_alloc.specs.declared.places.Places.{Places}
use Rattle.rv_instr.specs.declared.instr.Instr.{Instr}
use Rattle.rv_instr.specs.declared.instr.Instr.TheVariants.{Cjal, Cjalr}
use Rattle.select_words.specs.Services.{ask}
use Rattle.select_words.specs.Standing.{HasAt}
use Rattle.tac_ir.specs.Costs.{function_cost}
use Rattle.tac_ir.specs.declared.code.TacFun.{TacFun}
use Rattle.tac_ir.specs.declared.code.TacInstr.{TacInstr}
use Rattle.select_words.specs.ContainedCode.{offset_of}
use Rattle.rv_select.specs.Following.{Continues, Follows, LeadsTo, Becomes, IsBetween, FunctionIsPut, IsPut, ArePut}
use Rattle.rv_select.specs.Following.{Begins, ByJump, ByEntry}
use Rattle.rv_emit.specs.Growing.{Size, Links, AreEntries, calling, reach}
use Rattle.rv_emit.specs.Leading.{IsHop, JumpsTo, NoJump, IsEnteredAt, IsCompleted, AreNear}
use Rattle.rv_select.specs.Selected.{AreNumbers, Before, EndsAt, FunctionStands, IsSelected, in_function, is_entered}
use Rattle.rv_select.specs.Selected.{is_said, is_sunk, StartWords, Near, Far}
use Rattle.rv_emit.specs.Jump.{Jump}
use Rattle.rv_select.specs.declared.function.Function.{Function}
use Rattle.rv_select.specs.Choosing.{chosen, number_in}
use Rattle.rv_select.specs.Parameters.{TakesParameters}
use Rattle.rv_select.specs.Selectable.{AreAll, IsSelectable, table_of}
use Rattle.rv_select.specs.Suiting.{AllSuit}
use Rattle.rv_select.specs.Written.{AreWritten}
use Rattle.purecap_abi.specs.Saving.{IsFor}
use Rattle.rv_emit.proofs.Contained.{get_left}
use Rattle.rv_select.proofs.Noted.{continues_none, continues_then, continues_more, continues_keeps, appends_none}
use Rattle.rv_select.proofs.Noted.{appends_then}
use Rattle.rv_select.proofs.Amid.{has_each}
use Rattle.rv_select.proofs.Standing.{hop}
use Rattle.rv_select.proofs.Suited.{numbered, suits, takes}

-- ---- code that goes on

pub follows_none : (old : Size) → Follows old old
follows_none old = record {
  text = continues_none old.text old.text refl;
  lines = continues_none old.links.lines old.links.lines refl;
  calls = appends_none (length old.text) (length old.text) old.links.calls old.links.calls refl;
  far = refl;
}

pub follows_then : (old mid new : Size) → Follows old mid → Follows mid new → Follows old new
follows_then old mid new a b = record {
  text = continues_then old.text mid.text new.text a.text b.text;
  lines = continues_then old.links.lines mid.links.lines new.links.lines a.lines b.lines;
  calls = appends_then (length old.text) (length mid.text) (length new.text) old.links.calls mid.links.calls
      new.links.calls a.calls b.calls (continues_more old.text mid.text a.text)
      (continues_more mid.text new.text b.text);
  far = b.far ∙ a.far;
}

in_front : {A : Type 0} (xs ys : List A) (k : ℕ) (x : A) → Continues xs ys → slice_get xs k ≡ Some x
    → slice_get ys k ≡ Some x
in_front xs ys k x c e =
    ap (λ zs. slice_get zs k) c.is ∙ get_left xs c.added k (slice_get_within xs k x e) ∙ e

-- what becomes of all of it becomes of its front
pub becomes_before : (old new : Size) (code : List Instr) (lines : List Line) (entries : List ℕ) → Follows old new
    → Becomes new code lines entries → Becomes old code lines entries
becomes_before old new code lines entries f b = record {
  kept = λ k i e none.
      b.kept k i (in_front old.text new.text k i f.text e)
      (none_later k none (slice_get_within old.text k i e));
  called = λ at fun link z e j.
      b.called at fun link z (in_front old.text new.text at (Cjal link z) f.text e) (record {
        some = subst (λ js. Contains js (record { at = at; to = fun })) (sym f.calls.is)
            (Contains-append_left old.links.calls f.calls.added (record { at = at; to = fun }) j.some);
        only = none_else at (λ n. n ≡ fun) j.only (slice_get_within old.text at (Cjal link z) e);
      });
  said = λ l c. b.said l (continues_keeps old.links.lines new.links.lines l f.lines c);
  longer = let m = continues_more old.text new.text f.text in let l = b.longer in omega (arith, m, l);
}
  where
    none_else : (k : ℕ) (P : ℕ → Type 0) → All (λ j. j.at ≡ k → P j.to) old.links.calls → k < length old.text
        → All (λ j. j.at ≡ k → P j.to) new.links.calls
    none_else k P h lt =
        subst (All (λ (j : Jump). j.at ≡ k → P j.to)) (sym f.calls.is)
        (All-append (λ (j : Jump). j.at ≡ k → P j.to) old.links.calls f.calls.added h
        (All-weaker (λ (j : Jump). (length old.text ≤ j.at) × (j.at < length new.text))
        (λ (j : Jump). j.at ≡ k → P j.to)
        (λ j i e. let low = i.0 in absurd (omega (arith, low, e, lt))) f.calls.added f.calls.inside))

    none_later : (k : ℕ) → NoJump old.links.calls k → k < length old.text → NoJump new.links.calls k
    none_later k h lt =
        subst (All (λ (j : Jump). j.at ≡ k → ⊥)) (sym f.calls.is)
        (All-append (λ (j : Jump). j.at ≡ k → ⊥) old.links.calls f.calls.added h
        (All-weaker (λ (j : Jump). (length old.text ≤ j.at) × (j.at < length new.text)) (λ (j : Jump). j.at ≡ k → ⊥)
        (λ j i e. let low = i.0 in omega (arith, low, e, lt)) f.calls.added f.calls.inside))

-- ---- functions

pub put_none : (table : Before) (places : List Places) (frames : List Frame) (old : Size) → IsBetween old
    → ArePut table [] places frames old old
put_none table places frames old b = record {
  follows = follows_none old;
  between = b;
  numbers = λ fun temp. None;
  numbered = λ fun t e. absurd cc;
  word = λ fun is. 0;
  ends = λ fun lt. absurd (omega (arith, lt));
  stand = λ fun at t l frame e. absurd cc;
}

-- the last of them, or one before it
last_or : {A : Type 0} (xs : List A) (x : A) (k : ℕ) (y : A) → slice_get (xs ++ x ∷ []) k ≡ Some y → (k ≡ length xs → ⊥)
    → slice_get xs k ≡ Some y
last_or [] x zero y e n = absurd (n refl)
last_or [] x (suc k) y e n = absurd cc
last_or (z ∷ zs) x zero y e n = e
last_or (z ∷ zs) x (suc k) y e n = last_or zs x k y e (λ q. n (ap suc q))

the_last : {A : Type 0} (xs : List A) (x : A) → slice_get (xs ++ x ∷ []) (length xs) ≡ Some x
the_last [] x = refl
the_last (z ∷ zs) x = the_last zs x

module _ (table : Before) (funs : List TacFun) (places : List Places) (frames : List Frame) (t : TacFun) (l : Places)
    (frame : Frame) (old mid new : Size) (a : ArePut table funs places frames old mid)
    (p : IsPut table t l.homes frame mid new) (place : slice_get places (length funs) ≡ Some l)
    (framed : slice_get frames (length funs) ≡ Some frame)
    (many : length mid.links.entered ≡ length old.links.entered + length funs) where
  abbrev is_last : ℕ → Bool
  is_last fun = fun == length funs

  abbrev numbers_of : Bool → ℕ → ℕ → Option ℕ
  numbers_of v fun = if v then p.numbers else a.numbers fun

  abbrev word_of : Bool → ℕ → List TacInstr → ℕ
  word_of v fun = if v then p.put.word else a.word fun

  abbrev StandsThere : Bool → (fun at : ℕ) → TacFun → Places → Frame → List Instr → List Line → List ℕ → Type 0
  StandsThere v fun at u m g code lines entries =
      FunctionStands code (is_said lines) (is_sunk lines) (is_entered entries)
      (in_function table m.homes g (numbers_of v fun)) g u (word_of v fun) at

  module _ (fun : ℕ) (u : TacFun) (e : slice_get (funs ++ t ∷ []) fun ≡ Some u) where
    is_own : fun ≡ length funs → t ≡ u
    is_own q =
        same_Some t u (sym (the_last funs t) ∙ ap (slice_get (funs ++ t ∷ [])) (sym q) ∙ e)

    are_numbers : AreNumbers u (numbers_of (is_last fun) fun)
    are_numbers = ⊎_elim
        (λ (q : fun ≡ length funs).
        subst (λ v. AreNumbers u (numbers_of v fun)) (sym (eq-eqb fun (length funs) q))
        (subst (λ x. AreNumbers x p.numbers) (is_own q) p.numbered))
        (λ (n : fun ≡ length funs → ⊥).
        subst (λ v. AreNumbers u (numbers_of v fun)) (sym (ne_eqb fun (length funs) n))
        (a.numbered fun u (last_or funs t fun u e n)))
        (cases_eq fun (length funs))

    module _ (at : ℕ) (m : Places) (g : Frame) (placed : slice_get places fun ≡ Some m)
        (with_frame : slice_get frames fun ≡ Some g)
        (entered : IsEnteredAt new.links.entered (length old.links.entered + fun) at) (code : List Instr)
        (lines : List Line) (entries : List ℕ) (b : Becomes new code lines entries) where
      own_stands : fun ≡ length funs → StandsThere true fun at u m g code lines entries
      own_stands q =
          let home : l ≡ m = same_Some l m (sym place ∙ ap (slice_get places) (sym q) ∙ placed) in
          let same : frame ≡ g = same_Some frame g (sym framed ∙ ap (slice_get frames) (sym q) ∙ with_frame) in
          let where_at : length old.links.entered + fun ≡ length mid.links.entered = omega (arith, q, many) in
          let there : 4 * length mid.text ≡ 4 * at = same_Some (4 * length mid.text) (4 * at)
          (sym (the_last mid.links.entered (4 * length mid.text))
          ∙ ap (λ xs. slice_get xs (length mid.links.entered)) (sym p.put.entered)
          ∙ ap (slice_get new.links.entered) (sym where_at) ∙ entered) in
          let begins : length mid.text ≡ at = omega (arith, there) in
          subst (λ n. StandsThere true fun n u m g code lines entries) begins
          (subst (λ x. StandsThere true fun (length mid.text) x m g code lines entries) (is_own q)
          (subst (λ x. StandsThere true fun (length mid.text) t x g code lines entries) home
          (subst (λ x. StandsThere true fun (length mid.text) t l x code lines entries) same
          (p.put.stands code lines entries b))))

      earlier_stands : (fun ≡ length funs → ⊥) → StandsThere false fun at u m g code lines entries
      earlier_stands n =
          let before = last_or funs t fun u e n in
          let lt = slice_get_within funs fun u before in
          a.stand fun at u m g before placed with_frame
          (sym (get_left mid.links.entered (4 * length mid.text ∷ []) (length old.links.entered + fun)
          (omega (arith, lt, many)))
          ∙ ap (λ xs. slice_get xs (length old.links.entered + fun)) (sym p.put.entered) ∙ entered)
          code lines entries (becomes_before mid new code lines entries p.put.follows b)

      stands_there : StandsThere (is_last fun) fun at u m g code lines entries
      stands_there = ⊎_elim
          (λ (q : fun ≡ length funs).
          subst (λ v. StandsThere v fun at u m g code lines entries) (sym (eq-eqb fun (length funs) q)) (own_stands q))
          (λ (n : fun ≡ length funs → ⊥).
          subst (λ v. StandsThere v fun at u m g code lines entries) (sym (ne_eqb fun (length funs) n))
          (earlier_stands n))
          (cases_eq fun (length funs))

  -- ---- where its words end

  long : length new.links.entered ≡ length mid.links.entered + 1
  long = ap length p.put.entered ∙ length-append mid.links.entered (4 * length mid.text ∷ [])

  module _ (fun : ℕ) (lt : fun < length (funs ++ t ∷ [])) where
    abbrev EndsThere : Bool → Type 0
    EndsThere v = EndsAt new.links.entered (length new.text) (length old.links.entered + fun) (word_of v fun [])

    -- behind its own no function is entered
    own_ends : fun ≡ length funs → EndsThere true
    own_ends q = record {
      next = λ at e.
          let w = slice_get_within new.links.entered (suc (length old.links.entered + fun)) (4 * at) e in
          absurd (omega (arith, w, long, many, q));
      last = λ e. p.put.ends;
    }

    less : (fun ≡ length funs → ⊥) → fun < length funs
    less n = ⊎_elim (λ (h : fun < length funs). h)
        (λ (h : length funs ≤ fun).
        let size = length-append funs (t ∷ []) in absurd (n (omega (arith, h, lt, size))))
        (cases_lt fun (length funs))

    -- where one of the first is entered
    was_entered : (k at : ℕ) → k < length mid.links.entered → IsEnteredAt new.links.entered k at
        → IsEnteredAt mid.links.entered k at
    was_entered k at below e =
        sym (get_left mid.links.entered (4 * length mid.text ∷ []) k below)
        ∙ ap (λ xs. slice_get xs k) (sym p.put.entered) ∙ e

    earlier_ends : fun < length funs → EndsThere false
    earlier_ends below = record {
      next = λ at e. ⊎_elim
          (λ (h : suc fun < length funs).
          (a.ends fun below).next at (was_entered (suc (length old.links.entered + fun)) at (omega (arith, h, many)) e))
          (λ (h : length funs ≤ suc fun).
          let here : suc (length old.links.entered + fun) ≡ length mid.links.entered = omega (arith, h, below, many) in
          let there : 4 * length mid.text ≡ 4 * at = same_Some (4 * length mid.text) (4 * at)
          (sym (the_last mid.links.entered (4 * length mid.text))
          ∙ ap (λ xs. slice_get xs (length mid.links.entered)) (sym p.put.entered)
          ∙ ap (slice_get new.links.entered) (sym here) ∙ e) in
          (a.ends fun below).last here ∙ omega (arith, there))
          (cases_lt (suc fun) (length funs));
      last = λ e. absurd (omega (arith, e, long, many, below));
    }

    ends_there : EndsThere (is_last fun)
    ends_there = ⊎_elim
        (λ (q : fun ≡ length funs). subst EndsThere (sym (eq-eqb fun (length funs) q)) (own_ends q))
        (λ (n : fun ≡ length funs → ⊥).
        subst EndsThere (sym (ne_eqb fun (length funs) n)) (earlier_ends (less n)))
        (cases_eq fun (length funs))

  pub put_more : ArePut table (funs ++ t ∷ []) places frames old new
  put_more = record {
    follows = follows_then old mid new a.follows p.put.follows;
    between = p.put.between;
    numbers = λ fun. numbers_of (is_last fun) fun;
    numbered = λ fun u e. are_numbers fun u e;
    word = λ fun. word_of (is_last fun) fun;
    ends = λ fun lt. ends_there fun lt;
    stand = λ fun at u m g e placed with_frame entered code lines entries b.
        stands_there fun u e at m g placed with_frame entered code lines entries b;
  }

pub put_next : (table : Before) (funs : List TacFun) (places : List Places) (frames : List Frame) (k : ℕ) (t : TacFun)
    (l : Places) (frame : Frame) (old mid new : Size) → k < length funs → t ≡ get_or funs k t
    → slice_get places k ≡ Some l → slice_get frames k ≡ Some frame
    → length mid.links.entered ≡ length old.links.entered + k → ArePut table (take k funs) places frames old mid
    → IsPut table t l.homes frame mid new → ArePut table (take (k + 1) funs) places frames old new
put_next table funs places frames k t l frame old mid new lt is place framed many a p =
    let len = length-take-le k funs (omega (arith, lt)) in
    let next : take k funs ++ t ∷ [] ≡ take (k + 1) funs =
    ap (λ x. take k funs ++ x ∷ []) is ∙ sym (take_more funs k t lt) in
    subst (λ xs. ArePut table xs places frames old new) next
    (put_more table (take k funs) places frames t l frame old mid new a p
    (ap (slice_get places) len ∙ place) (ap (slice_get frames) len ∙ framed)
    (many ∙ ap (λ n. length old.links.entered + n) (sym len)))

-- ---- the whole

-- in code of no more words than a call leads over, calls are near
near_all : (c : Size) (code : List Instr) → All (λ j. j.at < length c.text) c.links.calls
    → length c.text < length code → AreEntries (length code) c.links.entered → length code ≤ 262144
    → AreNear c.links.calls c.links.entered
near_all c code below longer entries short =
    All-weaker (λ (j : Jump). j.at < length c.text)
    (λ (j : Jump). (to : ℕ) → IsEnteredAt c.links.entered j.to to → (to < j.at + 262144) × (j.at ≤ to + 262144))
    (λ j lt to e.
    let inside = entries.inside j.to (slice_get_within c.links.entered j.to (4 * to) e) in
    let is = get_or_from_slice_get c.links.entered j.to (4 * to) 0 e in
    (omega (arith, inside, is, short), omega (arith, lt, longer, short))) c.links.calls below

-- a word stands behind the text
text_shorter : (c : Size) (code : List Instr) → IsCompleted c code → length c.text < length code
text_shorter c code d =
    let whole = ap length d.are ∙ length-append d.front (Cjal 0 (pos 0) ∷ []) in
    let l = d.led.len in
    omega (arith, l, whole)

-- of far calls none is noted, and the others are near where the code is short
calls_near : (far : Bool) (c : Size) (code : List Instr) → All (λ j. j.at < length c.text) c.links.calls
    → IsCompleted c code → AreEntries (length code) c.links.entered → (far ≡ true → c.links.calls ≡ [])
    → (far ≡ false → length code ≤ 262144) → AreNear c.links.calls c.links.entered
calls_near true c code below d entries none short =
    subst (λ js. AreNear js c.links.entered) (sym (none refl))
    (All-nil (λ (j : Jump). (to : ℕ) → IsEnteredAt c.links.entered j.to to
    → (to < j.at + 262144) × (j.at ≤ to + 262144)))
calls_near false c code below d entries none short =
    near_all c code below (text_shorter c code d) entries (short refl)

-- what is completed is what becomes of it, where its calls are near
pub becomes_completed : (c : Size) (code : List Instr) → IsCompleted c code → AreNear c.links.calls c.links.entered
    → Becomes c code c.links.lines c.links.entered
becomes_completed c code d near = record {
  kept = λ k i e none. there k i (d.led.others k none ∙ e);
  called = λ at fun link z e j.
      let y = d.led.kinds at (Cjal link z) e in
      record {
        by = y.0;
        there = there at (Cjal link y.0) y.1;
        leads = λ to q. lands at fun link to z y.0 e j y.1 q;
      };
  said = λ l h. h;
  longer = text_shorter c code d;
}
  where
    there : (k : ℕ) (i : Instr) → slice_get d.front k ≡ Some i → slice_get code k ≡ Some i
    there k i e = in_front d.front code k i (record { added = Cjal 0 (pos 0) ∷ []; is = d.are }) e

    lands : (at fun link to : ℕ) (z y : ℤ) → slice_get c.text at ≡ Some (Cjal link z) → JumpsTo c.links.calls at fun
        → slice_get d.front at ≡ Some (Cjal link y) → IsEnteredAt c.links.entered fun to → IsHop at to y
    lands at fun link to z y e j now q =
        let x = hop at to in
        let reached = All-contains
        (λ (j : Jump). (to : ℕ) → IsEnteredAt c.links.entered j.to to
        → (to < j.at + 262144) × (j.at ≤ to + 262144)) c.links.calls (record { at = at; to = fun }) near j.some to q in
        let led = d.led.led at fun to (Cjal link z) x.0 j q e
        (record { ahead = reached.0; back = reached.1 }) x.1 in
        let same : x.0 ≡ y = same_Some x.0 y
        (ap offset_of (same_Some (Cjal link x.0) (Cjal link y) (sym led ∙ now))) in
        subst (IsHop at to) same x.1

-- the call is the first that is noted
first_calls : (first begun : Size) (main : ℕ) → first.text ≡ [] → first.links.calls ≡ []
    → begun.links ≡ calling first.links (length first.text) main
    → begun.links.calls ≡ (record { at = 0; to = main }) ∷ []
first_calls first begun main t c links =
    ap (λ (x : Links). x.calls) links ∙ ap (λ js. js ++ (record { at = length first.text; to = main }) ∷ []) c
    ∙ ap (λ xs. (record { at = length xs; to = main }) ∷ []) t

-- no function is at hand behind the call with which a text begins
pub between_begun : (first begun : Size) (entry main : ℕ) → first.text ≡ [] → first.links.marks ≡ []
    → first.links.jumps ≡ [] → first.links.calls ≡ [] → Begins entry main first begun → IsBetween begun
between_begun first begun entry main t m j c (ByJump text links) =
    let calls : begun.links.calls ≡ (record { at = 0; to = main }) ∷ [] = first_calls first begun main t c links in
    let size = ap length text ∙ length-append first.text (Cjal 1 (pos 0) ∷ ask 3) in
    record {
      marks = ap (λ (x : Links). x.marks) links ∙ m;
      jumps = ap (λ (x : Links). x.jumps) links ∙ j;
      calls = subst (All (λ (j : Jump). j.at < length begun.text)) (sym calls)
          (All-push (λ (j : Jump). j.at < length begun.text) [] (record { at = 0; to = main })
          (All-nil (λ (j : Jump). j.at < length begun.text)) (omega (arith, size)));
    }
between_begun first begun entry main t m j c (ByEntry finds found text links) = record {
  marks = ap (λ (x : Links). x.marks) links ∙ m;
  jumps = ap (λ (x : Links). x.jumps) links ∙ j;
  calls = subst (All (λ (j : Jump). j.at < length begun.text)) (sym (ap (λ (x : Links). x.calls) links ∙ c))
      (All-nil (λ (j : Jump). j.at < length begun.text));
}

-- it enters no function, and leaves the form of calls
begun_entered : (first begun : Size) (entry main : ℕ) → Begins entry main first begun
    → begun.links.entered ≡ first.links.entered
begun_entered first begun entry main (ByJump text links) = ap (λ (x : Links). x.entered) links
begun_entered first begun entry main (ByEntry finds found text links) = ap (λ (x : Links). x.entered) links

begun_far : (first begun : Size) (entry main : ℕ) → Begins entry main first begun → begun.links.far ≡ first.links.far
begun_far first begun entry main (ByJump text links) = ap (λ (x : Links). x.far) links
begun_far first begun entry main (ByEntry finds found text links) = ap (λ (x : Links). x.far) links

module _ (table : Before) (funs : List TacFun) (places : List Places) (frames : List Frame) (main : ℕ)
    (first begun final : Size) (code : List Instr) (lines : List Line) (entries : List ℕ)
    (a : ArePut table funs places frames begun final) (empty : first.text ≡ []) (no_calls : first.links.calls ≡ [])
    (begun_by : Begins (table.functions + main) main first begun) (none : begun.links.entered ≡ [])
    (completed : IsCompleted final code) (near : AreNear final.links.calls final.links.entered)
    (is_lines : lines ≡ final.links.lines) (are_entries : entries ≡ final.links.entered) where
  becomes : Becomes final code lines entries
  becomes =
      subst (λ ls. Becomes final code ls entries) (sym is_lines)
      (subst (λ es. Becomes final code final.links.lines es) (sym are_entries)
      (becomes_completed final code completed near))

  front : Becomes begun code lines entries
  front = becomes_before begun final code lines entries a.follows becomes

  -- the words with which it begins
  record IsBegun : Type 0 where
    start : List Instr
    begins : HasAt code 0 start
    starts : StartWords (λ z. (at : ℕ) → is_entered entries main at → IsHop 0 at z) (table.functions + main) start

  is_begun : Begins (table.functions + main) main first begun → IsBegun
  is_begun (ByJump text links) =
      let calls = first_calls first begun main empty no_calls links in
      let words : begun.text ≡ Cjal 1 (pos 0) ∷ ask 3 = text ∙ ap (λ xs. xs ++ Cjal 1 (pos 0) ∷ ask 3) empty in
      let no_call : (k : ℕ) → (0 ≡ k → ⊥) → NoJump begun.links.calls k = λ k n.
      subst (λ js. NoJump js k) (sym calls) (All-push (λ (j : Jump). j.at ≡ k → ⊥) [] (record { at = 0; to = main })
      (All-nil (λ (j : Jump). j.at ≡ k → ⊥)) n) in
      let call : LeadsTo (IsEnteredAt entries main) code 0 1 =
      front.called 0 main 1 (pos 0) (ap (λ xs. slice_get xs 0) words)
      (subst (λ js. JumpsTo js 0 main) (sym calls) (record {
        some = Contains-push [] (record { at = 0; to = main });
        only = All-push (λ (j : Jump). j.at ≡ 0 → j.to ≡ main) [] (record { at = 0; to = main })
            (All-nil (λ (j : Jump). j.at ≡ 0 → j.to ≡ main)) (λ e. refl);
      })) in
      record {
        start = Cjal 1 call.by ∷ ask 3;
        begins = (
          call.there,
          (
            front.kept 1 _ (ap (λ xs. slice_get xs 1) words) (no_call 1 (λ e. omega (arith, e))),
            (front.kept 2 _ (ap (λ xs. slice_get xs 2) words) (no_call 2 (λ e. omega (arith, e))), tt),
          ),
        );
        starts = Near call.by (λ at e. call.leads at e) refl;
      }
  is_begun (ByEntry finds found text links) =
      let start = finds ++ (Cjalr 1 31 (pos 0) ∷ ask 3) in
      let words : begun.text ≡ start = text ∙ ap (λ xs. xs ++ start) empty in
      let calls : begun.links.calls ≡ [] = ap (λ (x : Links). x.calls) links ∙ no_calls in
      record {
        start = start;
        begins = has_each code start 0 (λ k i e.
            let here : k ≡ 0 + k = omega arith in
            subst (λ n. slice_get code n ≡ Some i) here (front.kept k i (ap (λ xs. slice_get xs k) words ∙ e)
            (subst (λ js. NoJump js k) (sym calls) (All-nil (λ (j : Jump). j.at ≡ k → ⊥)))));
        starts = Far finds found refl;
      }

  -- the words of a function end where those of the next one begin, and those of the last before one word
  all_end : (fun : ℕ) → fun < length funs → EndsAt entries (length code - 1) fun (a.word fun [])
  all_end fun lt =
      let size = ap length none in
      let here : length begun.links.entered + fun ≡ fun = omega (arith, size) in
      let whole = ap length completed.are ∙ length-append completed.front (Cjal 0 (pos 0) ∷ []) in
      let led = completed.led.len in
      let words : length final.text ≡ length code - 1 = omega (arith, whole, led) in
      subst (λ es. EndsAt es (length code - 1) fun (a.word fun [])) (sym are_entries)
      (subst (λ n. EndsAt final.links.entered n fun (a.word fun [])) words
      (subst (λ n. EndsAt final.links.entered (length final.text) n (a.word fun [])) here (a.ends fun lt)))

  pub is_selected : IsSelected funs places frames table main code lines entries
  is_selected =
      let b = is_begun begun_by in
      record {
        start = b.start;
        begins = b.begins;
        starts = b.starts;
        numbers = a.numbers;
        numbered = a.numbered;
        word = a.word;
        functions = λ fun at t l frame e p f q.
            let size = ap length none in
            let here : fun ≡ length begun.links.entered + fun = omega (arith, size) in
            a.stand fun at t l frame e p f
            (subst (λ n. IsEnteredAt final.links.entered n at) here (subst (λ es. IsEnteredAt es fun at) are_entries q))
            code lines entries becomes;
        ends = all_end;
      }

-- one of its functions, whose numbers were found
pub one_put : (f : Function) (t : TacFun) (old new : Size) → IsFor f.places.now.homes f.frame.now
    → AreWritten t f.written.now
    → (IsBetween old → AllSuit f t.code → TakesParameters f t.params → function_cost t < 262144
    → FunctionIsPut (chosen f) f.frame.now t old new)
    → IsBetween old → IsSelectable (table_of f.entries) t f.places.now.homes f.frame.now
    → IsPut (table_of f.entries) t f.places.now.homes f.frame.now old new
one_put f t old new framed written put between selectable =
    let short = selectable.short in
    record {
      numbers = λ temp. number_in (slice_get f.written.now temp);
      numbered = numbered t f.written.now written;
      put = put between (suits f t selectable framed written)
          (takes f t selectable framed written (omega (arith, short))) short;
    }

-- all of a program
pub program_is_selected : (table made : Before) (funs fs : List TacFun) (places ls : List Places)
    (frames gs : List Frame)
    (main : ℕ) (far : Bool) (first begun final : Size) (code : List Instr) (lines : List Line) (entries : List ℕ)
    → made ≡ table
    → fs ≡ funs → ls ≡ places → gs ≡ frames → first.text ≡ []
    → first.links ≡ record { marks = []; jumps = []; calls = []; entered = []; lines = []; far = far }
    → (16 * (made.functions + main) < reach → Begins (made.functions + main) main first begun)
    → (IsBetween begun → AreAll made fs ls gs → ArePut made fs ls gs begun final)
    → IsCompleted final code → AreEntries (length code) entries → (final.links.far ≡ true → final.links.calls ≡ [])
    → lines ≡ final.links.lines → entries ≡ final.links.entered → (far ≡ false → length code ≤ 262144)
    → 16 * (table.functions + main) < reach → AreAll table funs places frames
    → IsSelected funs places frames table main code lines entries
program_is_selected table made funs fs places ls frames gs main far first begun final code lines entries m f l g none
    no_links begins put completed few unnoted is_lines are_entries short reaches all =
    let no_calls = ap (λ (x : Links). x.calls) no_links in
    let begun_by = subst (λ (b : Before). Begins (b.functions + main) main first begun) m
    (begins (subst (λ (b : Before). 16 * (b.functions + main) < reach) (sym m) reaches)) in
    let between = between_begun first begun (table.functions + main) main none (ap (λ (x : Links). x.marks) no_links)
    (ap (λ (x : Links). x.jumps) no_links) no_calls begun_by in
    let same = subst (λ x. AreAll x fs ls gs) (sym m) (subst (λ x. AreAll table x ls gs) (sym f)
    (subst (λ x. AreAll table funs x gs) (sym l) (subst (λ x. AreAll table funs places x) (sym g) all))) in
    let a = subst (λ x. ArePut x funs places frames begun final) m
    (subst (λ x. ArePut made x places frames begun final) f
    (subst (λ x. ArePut made fs x frames begun final) l (subst (λ x. ArePut made fs ls x begun final) g
    (put between same)))) in
    let entered = begun_entered first begun (table.functions + main) main begun_by
    ∙ ap (λ (x : Links). x.entered) no_links in
    let is_far : final.links.far ≡ far = a.follows.far ∙ begun_far first begun (table.functions + main) main begun_by
    ∙ ap (λ (x : Links). x.far) no_links in
    let near = calls_near far final code a.between.calls completed (subst (AreEntries (length code)) are_entries few)
    (λ e. unnoted (is_far ∙ e)) short in
    is_selected table funs places frames main first begun final code lines entries a none no_calls begun_by entered
    completed near is_lines are_entries
