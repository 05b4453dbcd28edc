-- The words of an instruction amid others, once jumps and calls are led.
use Rattle.std.proofs.Common.{◌≡◌, ℕ, zero, suc, ◌+◌, ◌/◌, ◌<◌, ◌≤◌, ⊎_elim, ℤ, pos, Bool, true, List, [], ◌∷◌, ◌++◌}
use Rattle.std.proofs.Common.{inl, inr, length, Option, Some, refl, sym, ap, ◌∙◌, subst, arith, append_assoc}
use Rattle.std.specs.Prelude.{slice_get}
use Rattle.std.specs.List.{All, Contains}
use Rattle.std.proofs.lemmas.Bool.{cases_eq}
use Rattle.std.proofs.lemmas.List.{append-nil, length-append}
use Rattle.std.proofs.lemmas.List.Elements.{All-append, All-nil, All-push, Contains-append_left, Contains-push}
use Rattle.std.proofs.lemmas.Option.{slice_get_within}
use Rattle.ck_base.specs.declared.positions.Pos.{Pos}
use Rattle.elf_file.specs.declared.image.Line.{Line}
use Rattle.rv_instr.specs.declared.instr.Instr.{Instr}
use Rattle.rv_instr.specs.declared.instr.Instr.TheVariants.{Branch, Cjal}
use Rattle.select_words.specs.Jumps.{inverted}
use Rattle.select_words.specs.Selecting.{Selecting}
use Rattle.select_words.specs.Standing.{HasAt}
use Rattle.tac_ir.specs.Temps.{behind}
use Rattle.tac_ir.specs.WellFormed.{has_label, labels_differ}
use Rattle.tac_ir.specs.declared.code.TacFun.{TacFun}
use Rattle.tac_ir.specs.declared.code.TacInstr.{TacInstr}
use Rattle.tac_ir.specs.declared.code.TacInstr.TheVariants as instr
use Rattle.rv_select.specs.Following.{Continues, Appends, LeadsTo}
use Rattle.rv_emit.specs.Growing.{Size, Links, line_at, trapping, jumping}
use Rattle.rv_emit.specs.Leading.{IsHop, JumpsTo, NoJump}
use Rattle.rv_select.specs.Noting.{noting}
use Rattle.rv_select.specs.Selected.{CallsBy, FarCallsBy, WordsOf, noted_copy, ways}
use Rattle.rv_emit.specs.Jump.{Jump}
use Rattle.rv_emit.proofs.Contained.{get_left, get_right}
use Rattle.rv_emit.proofs.Landed.{at_seam, off_seam}

-- ---- words in a code

pub has_each : (code ws : List Instr) (at : ℕ)
    → ((k : ℕ) (i : Instr) → slice_get ws k ≡ Some i → slice_get code (at + k) ≡ Some i) → HasAt code at ws
has_each code [] at h = tt
has_each code (w ∷ ws) at h =
    let here : at + 0 ≡ at = omega arith in (
      subst (λ n. slice_get code n ≡ Some w) here (h 0 w refl),
      has_each code ws (at + 1) (λ k i e.
          let next : at + suc k ≡ at + 1 + k = omega arith in
          subst (λ n. slice_get code n ≡ Some i) next (h (suc k) i e)),
    )

-- ---- jumps from words

-- of some jumps, these alone are from words from one on and before another
record Around (from to : ℕ) (mine whole : List Jump) : Type 0 where
  before : List Jump
  later : List Jump
  is : whole ≡ (before ++ mine) ++ later
  low : All (λ j. j.at < from) before
  high : All (λ j. to ≤ j.at) later

module _ (from to : ℕ) (mine whole : List Jump) (a : Around from to mine whole) where
  all_around : (k : ℕ) (P : Jump → Type 0) → from ≤ k → k < to → All (λ j. j.at ≡ k → P j) mine
      → All (λ j. j.at ≡ k → P j) whole
  all_around k P low high h =
      subst (All (λ (j : Jump). j.at ≡ k → P j)) (sym a.is)
      (All-append (λ (j : Jump). j.at ≡ k → P j) (a.before ++ mine) a.later
      (All-append (λ (j : Jump). j.at ≡ k → P j) a.before mine
      (λ n d lt e. absurd (let l = a.low n d lt in omega (arith, l, e, low))) h)
      (λ n d lt e. absurd (let l = a.high n d lt in omega (arith, l, e, high))))

jumps_once : (from to at l : ℕ) (whole : List Jump) → Around from to ((record { at = at; to = l }) ∷ []) whole
    → from ≤ at → at < to → JumpsTo whole at l
jumps_once from to at l whole a low high =
    let own : Jump = record { at = at; to = l } in
    record {
      some = subst (λ js. Contains js own) (sym a.is)
          (Contains-append_left (a.before ++ own ∷ []) a.later own (Contains-push a.before own));
      only = all_around from to (own ∷ []) whole a at (λ j. j.to ≡ l) low high
          (All-push (λ (j : Jump). j.at ≡ at → j.to ≡ l) [] own (All-nil (λ (j : Jump). j.at ≡ at → j.to ≡ l))
          (λ e. refl));
    }

-- ---- words amid others

-- the words between two sizes of a code that grows to another
pub record IsAmid (old new whole : Size) : Type 0 where
  pub text : Continues new.text whole.text
  pub lines : Continues new.links.lines whole.links.lines
  pub jumps_before : All (λ j. j.at < length old.text) old.links.jumps
  pub jumps_behind : Appends (length new.text) (length whole.text) new.links.jumps whole.links.jumps
  pub calls_before : All (λ j. j.at < length old.text) old.links.calls
  pub calls_behind : Appends (length new.text) (length whole.text) new.links.calls whole.links.calls

-- jumps and calls are led, and other words stay
pub record ComesTo (Place Entry : (to place : ℕ) → Type 0) (whole : Size) (code : List Instr) : Type 0 where
  pub kept : (k : ℕ) (i : Instr) → slice_get whole.text k ≡ Some i → NoJump whole.links.jumps k
      → NoJump whole.links.calls k → slice_get code k ≡ Some i
  pub jumped : (at to link : ℕ) (z : ℤ) → slice_get whole.text at ≡ Some (Cjal link z) → JumpsTo whole.links.jumps at to
      → NoJump whole.links.calls at → LeadsTo (Place to) code at link
  pub called : (at to link : ℕ) (z : ℤ) → slice_get whole.text at ≡ Some (Cjal link z) → NoJump whole.links.jumps at
      → JumpsTo whole.links.calls at to → LeadsTo (Entry to) code at link

module _ (Place Entry : (to place : ℕ) → Type 0) (old new whole : Size) (code : List Instr)
    (amid : IsAmid old new whole)
    (comes : ComesTo Place Entry whole code) (ws : List Instr) (is : new.text ≡ old.text ++ ws) where
  abbrev start : ℕ
  start = length old.text

  long : length new.text ≡ start + length ws
  long = ap length is ∙ length-append old.text ws

  stood : (k : ℕ) (i : Instr) → slice_get ws k ≡ Some i → slice_get whole.text (start + k) ≡ Some i
  stood k i e =
      let lt = slice_get_within ws k i e in
      ap (λ x. slice_get x (start + k)) amid.text.is
      ∙ get_left new.text amid.text.added (start + k) (omega (arith, lt, long))
      ∙ ap (λ x. slice_get x (start + k)) is ∙ get_right old.text ws k ∙ e

  around : (jumps : List Jump) → new.links.jumps ≡ old.links.jumps ++ jumps
      → Around start (length new.text) jumps whole.links.jumps
  around jumps e = record {
    before = old.links.jumps;
    later = amid.jumps_behind.added;
    is = amid.jumps_behind.is ∙ ap (λ x. x ++ amid.jumps_behind.added) e;
    low = amid.jumps_before;
    high = λ n d lt. (amid.jumps_behind.inside n d lt).0;
  }

  around_calls : (calls : List Jump) → new.links.calls ≡ old.links.calls ++ calls
      → Around start (length new.text) calls whole.links.calls
  around_calls calls e = record {
    before = old.links.calls;
    later = amid.calls_behind.added;
    is = amid.calls_behind.is ∙ ap (λ x. x ++ amid.calls_behind.added) e;
    low = amid.calls_before;
    high = λ n d lt. (amid.calls_behind.inside n d lt).0;
  }

  -- no jump is from there, but those that are its own
  none_at : (k : ℕ) (mine js : List Jump) → Around start (length new.text) mine js → k < length ws
      → NoJump mine (start + k) → NoJump js (start + k)
  none_at k mine js a lt n =
      all_around start (length new.text) mine js a (start + k) (λ j. ⊥) (omega arith) (omega (arith, lt, long)) n

  none_in : (k : ℕ) (js : List Jump) → Around start (length new.text) [] js → k < length ws → NoJump js (start + k)
  none_in k js a lt = none_at k [] js a lt (All-nil (λ (j : Jump). j.at ≡ start + k → ⊥))

  no_more : {A : Type 0} (xs ys : List A) → ys ≡ xs → ys ≡ xs ++ []
  no_more xs ys e = e ∙ sym (append-nil xs)

  -- words of which none leads elsewhere
  pub has_kept : new.links.jumps ≡ old.links.jumps → new.links.calls ≡ old.links.calls → HasAt code start ws
  has_kept e f = has_each code ws start (λ k i h.
      let lt = slice_get_within ws k i h in
      comes.kept (start + k) i (stood k i h) (none_in k whole.links.jumps (around [] (no_more _ _ e)) lt)
      (none_in k whole.links.calls (around_calls [] (no_more _ _ f)) lt))

  -- words of which one does
  has_led : (pre post : List Instr) (i n : Instr) → ws ≡ pre ++ i ∷ post → slice_get code (start + length pre) ≡ Some n
      → ((k : ℕ) (j : Instr) → slice_get ws k ≡ Some j → (k ≡ length pre → ⊥) → slice_get code (start + k) ≡ Some j)
      → HasAt code start (pre ++ n ∷ post)
  has_led pre post i n e led others = has_each code (pre ++ n ∷ post) start (λ k j h. ⊎_elim
      (λ (q : k ≡ length pre). ap (λ m. slice_get code (start + m)) q ∙ led ∙ sym (at_seam pre post n)
      ∙ ap (slice_get (pre ++ n ∷ post)) (sym q) ∙ h)
      (λ (d : k ≡ length pre → ⊥). others k j (ap (λ x. slice_get x k) e ∙ off_seam pre post i n k d ∙ h) d)
      (cases_eq k (length pre)))

  here_at : (pre post : List Instr) (i : Instr) → ws ≡ pre ++ i ∷ post → slice_get ws (length pre) ≡ Some i
  here_at pre post i e = ap (λ x. slice_get x (length pre)) e ∙ at_seam pre post i

  not_own : (k n l : ℕ) → (k ≡ n → ⊥) → NoJump ((record { at = start + n; to = l }) ∷ []) (start + k)
  not_own k n l d =
      All-push (λ (j : Jump). j.at ≡ start + k → ⊥) [] (record { at = start + n; to = l })
      (All-nil (λ (j : Jump). j.at ≡ start + k → ⊥)) (λ e. d (omega (arith, e)))

  module _ (pre post : List Instr) (link : ℕ) (z : ℤ) (l : ℕ) (form : ws ≡ pre ++ Cjal link z ∷ post) where
    within : length pre < length ws
    within = slice_get_within ws (length pre) (Cjal link z) (here_at pre post (Cjal link z) form)

    abbrev own : List Jump
    own = (record { at = start + length pre; to = l }) ∷ []

    -- by a jump to a label
    module _ (jumps : new.links.jumps ≡ old.links.jumps ++ own) (calls : new.links.calls ≡ old.links.calls) where
      pub jump_leads : LeadsTo (Place l) code (start + length pre) link
      jump_leads =
          comes.jumped (start + length pre) l link z (stood (length pre) (Cjal link z)
          (here_at pre post (Cjal link z) form))
          (jumps_once start (length new.text) (start + length pre) l whole.links.jumps (around own jumps) (omega arith)
          (omega (arith, within, long)))
          (none_in (length pre) whole.links.calls (around_calls [] (no_more _ _ calls)) within)

      pub has_jump : HasAt code start (pre ++ Cjal link jump_leads.by ∷ post)
      has_jump = has_led pre post (Cjal link z) (Cjal link jump_leads.by) form jump_leads.there (λ k j h d.
          let lt = slice_get_within ws k j h in
          comes.kept (start + k) j (stood k j h)
          (none_at k own whole.links.jumps (around own jumps) lt (not_own k (length pre) l d))
          (none_in k whole.links.calls (around_calls [] (no_more _ _ calls)) lt))

    -- and by a call
    module _ (jumps : new.links.jumps ≡ old.links.jumps) (calls : new.links.calls ≡ old.links.calls ++ own) where
      pub call_leads : LeadsTo (Entry l) code (start + length pre) link
      call_leads =
          comes.called (start + length pre) l link z (stood (length pre) (Cjal link z)
          (here_at pre post (Cjal link z) form))
          (none_in (length pre) whole.links.jumps (around [] (no_more _ _ jumps)) within)
          (jumps_once start (length new.text) (start + length pre) l whole.links.calls (around_calls own calls)
          (omega arith) (omega (arith, within, long)))

      pub has_call : HasAt code start (pre ++ Cjal link call_leads.by ∷ post)
      has_call = has_led pre post (Cjal link z) (Cjal link call_leads.by) form call_leads.there (λ k j h d.
          let lt = slice_get_within ws k j h in
          comes.kept (start + k) j (stood k j h)
          (none_in k whole.links.jumps (around [] (no_more _ _ jumps)) lt)
          (none_at k own whole.links.calls (around_calls own calls) lt (not_own k (length pre) l d)))

-- ---- one instruction

module _ (code : List Instr) (Says : (word : ℕ) → Pos → Type 0) (Entered : (fun at : ℕ) → Type 0) (s : Selecting)
    (t : TacFun) (word : List TacInstr → ℕ) where
  -- where its labels stand, if each stands once
  abbrev pub Labels : (l place : ℕ) → Type 0
  Labels l place = (has_label t.code l ≡ true) × (labels_differ t.code ≡ true) × (place ≡ word (behind l t.code))

  -- so many words stand there
  pub record StandsAs (at size : ℕ) (i : TacInstr) : Type 0 where
    pub words : List Instr
    pub are : WordsOf (ways code Says Entered s t word at) s i words
    pub has : HasAt code at words
    pub long : length words ≡ size

  module _ (old new whole : Size) (amid : IsAmid old new whole) (comes : ComesTo Labels Entered whole code)
      (said : (w : ℕ) (place : Pos) → Contains whole.links.lines (line_at w place 0) → Says w place) (ws : List Instr)
      (is : new.text ≡ old.text ++ ws) where
    stays : (i : TacInstr) → new.links.jumps ≡ old.links.jumps → new.links.calls ≡ old.links.calls
        → WordsOf (ways code Says Entered s t word (length old.text)) s i ws → StandsAs (length old.text) (length ws) i
    stays i e f w = record {
      words = ws;
      are = w;
      has = has_kept Labels Entered old new whole code amid comes ws is e f;
      long = refl;
    }

    passes : (i : TacInstr) → new.links ≡ old.links
        → WordsOf (ways code Says Entered s t word (length old.text)) s i ws → StandsAs (length old.text) (length ws) i
    passes i e w = stays i (ap (λ (x : Links). x.jumps) e) (ap (λ (x : Links). x.calls) e) w

    lines_later : (line : Line) → Contains new.links.lines line → Contains whole.links.lines line
    lines_later line c =
        subst (λ ls. Contains ls line) (sym amid.lines.is)
        (Contains-append_left new.links.lines amid.lines.added line c)

    -- a line was noted
    says : (at : ℕ) (place : Pos) (ls rest : List Line) → new.links.lines ≡ (ls ++ line_at at place 0 ∷ []) ++ rest
        → Says at place
    says at place ls rest e =
        said at place (lines_later (line_at at place 0) (subst (λ xs. Contains xs (line_at at place 0)) (sym e)
        (Contains-append_left (ls ++ line_at at place 0 ∷ []) rest (line_at at place 0)
        (Contains-push ls (line_at at place 0)))))

    traps : (i : TacInstr) (at : ℕ) (place : Pos) → new.links ≡ trapping old.links at place 0
        → (Says at place → WordsOf (ways code Says Entered s t word (length old.text)) s i ws)
        → StandsAs (length old.text) (length ws) i
    traps i at place e w =
        stays i (ap (λ (x : Links). x.jumps) e) (ap (λ (x : Links). x.calls) e)
        (w (says at place old.links.lines [] (ap (λ (x : Links). x.lines) e
        ∙ sym (append-nil (old.links.lines ++ line_at at place 0 ∷ [])))))

    jumps : (l : ℕ) → WordsOf (noting old new) s (instr.Jump l) ws
        → StandsAs (length old.text) (length ws) (instr.Jump l)
    jumps l w =
        let e = w.leads.1 in
        let j = ap (λ (x : Links). x.jumps) e in
        let c = ap (λ (x : Links). x.calls) e in
        let h = jump_leads Labels Entered old new whole code amid comes ws is [] [] 0 w.offset l w.are j c in
        record {
          words = Cjal 0 h.by ∷ [];
          are = record {
            offset = h.by;
            leads = λ has differ. h.leads (word (behind l t.code)) (has, differ, refl);
            are = refl;
          };
          has = has_jump Labels Entered old new whole code amid comes ws is [] [] 0 w.offset l w.are j c;
          long = sym (ap length w.are);
        }

    branches : (on : ℕ) (when : Bool) (l : ℕ) → WordsOf (noting old new) s (instr.Branch on when l) ws
        → StandsAs (length old.text) (length ws) (instr.Branch on when l)
    branches on when l w =
        let b = w.branches in
        let over = Branch (inverted when) b.a 0 (pos 8) in
        let pre = w.finds ++ over ∷ [] in
        let form : ws ≡ pre ++ Cjal 0 w.offset ∷ [] =
        b.are ∙ sym (append_assoc w.finds (over ∷ []) (Cjal 0 w.offset ∷ [])) in
        let size : length pre ≡ length w.finds + 1 = length-append w.finds (over ∷ []) in
        let note = subst (λ n. new.links ≡ jumping old.links (length old.text + n) l) (sym size) w.leads.1 in
        let j = ap (λ (x : Links). x.jumps) note in
        let c = ap (λ (x : Links). x.calls) note in
        let h = jump_leads Labels Entered old new whole code amid comes ws is pre [] 0 w.offset l form j c in
        record {
          words = pre ++ Cjal 0 h.by ∷ [];
          are = record {
            offset = h.by;
            finds = w.finds;
            branches = record {
              a = b.a;
              found = b.found;
              are = append_assoc w.finds (over ∷ []) (Cjal 0 h.by ∷ []);
            };
            leads = λ has differ. subst (λ n. IsHop (length old.text + n) (word (behind l t.code)) h.by) size
                (h.leads (word (behind l t.code)) (has, differ, refl));
          };
          has = has_jump Labels Entered old new whole code amid comes ws is pre [] 0 w.offset l form j c;
          long = length-append pre (Cjal 0 h.by ∷ []) ∙ sym (ap length form ∙ length-append pre (Cjal 0 w.offset ∷ []));
        }

    calls : (to : Option ℕ) (fun : ℕ) (args : List ℕ) → CallsBy ((noting old new).Calls fun) s to args ws
        → StandsAs (length old.text) (length ws) (instr.Call to fun args)
    calls to fun args w =
        let form : ws ≡ w.passes ++ Cjal 1 w.offset ∷ w.keep =
        w.are ∙ append_assoc w.passes (Cjal 1 w.offset ∷ []) w.keep in
        let note = w.leads.1 in
        let j = ap (λ (x : Links). x.jumps) note in
        let c = ap (λ (x : Links). x.calls) note in
        let h = call_leads Labels Entered old new whole code amid comes ws is w.passes w.keep 1 w.offset fun form j c in
        record {
          words = w.passes ++ Cjal 1 h.by ∷ w.keep;
          are = inl (record {
            offset = h.by;
            passes = w.passes;
            passed = w.passed;
            leads = λ to e. h.leads to e;
            keep = w.keep;
            kept = w.kept;
            are = sym (append_assoc w.passes (Cjal 1 h.by ∷ []) w.keep);
          });
          has = has_call Labels Entered old new whole code amid comes ws is w.passes w.keep 1 w.offset fun form j c;
          long = length-append w.passes (Cjal 1 h.by ∷ w.keep)
              ∙ sym (ap length form ∙ length-append w.passes (Cjal 1 w.offset ∷ w.keep));
        }

    copies : (units skip : ℕ) (a b : Pos) → noted_copy (noting old new) units skip a b
        → (new.links.jumps ≡ old.links.jumps) × (new.links.calls ≡ old.links.calls)
        × noted_copy (ways code Says Entered s t word (length old.text)) units skip a b
    copies zero skip a b e = (ap (λ (x : Links). x.jumps) e, ap (λ (x : Links). x.calls) e, tt)
    copies (suc n) skip a b e =
        let at = length old.text + skip in
        let noted = ap (λ (x : Links). x.lines) e in (
          ap (λ (x : Links). x.jumps) e,
          ap (λ (x : Links). x.calls) e,
          (
            says at a old.links.lines (line_at (at + 1) b 0 ∷ []) noted,
            says (at + 1) b (old.links.lines ++ line_at at a 0 ∷ []) []
                (noted ∙ sym (append-nil ((old.links.lines ++ line_at at a 0 ∷ []) ++ line_at (at + 1) b 0 ∷ []))),
          ),
        )

    pub stands_as : (i : TacInstr) → WordsOf (noting old new) s i ws → StandsAs (length old.text) (length ws) i
    stands_as (instr.Const to k v) w = passes (instr.Const to k v) w.0 (tt, w.1)
    stands_as (instr.Copy to from) w = passes (instr.Copy to from) w.0 (tt, w.1)
    stands_as (instr.Int o k to a b) w = passes (instr.Int o k to a b) w.0 (tt, w.1)
    stands_as (instr.Cmp o k to a b) w = passes (instr.Cmp o k to a b) w.0 (tt, w.1)
    stands_as (instr.Convert to from a b) w = passes (instr.Convert to from a b) w.0 (tt, w.1)
    stands_as (instr.Cap o to a b) w = passes (instr.Cap o to a b) w.0 (tt, w.1)
    stands_as (instr.Offset to base by) w = passes (instr.Offset to base by) w.0 (tt, w.1)
    stands_as (instr.Narrow to base n exact) w = passes (instr.Narrow to base n exact) w.0 (tt, w.1)
    stands_as (instr.Load to from k place) w =
        traps (instr.Load to from k place) (length old.text + w.0) place w.2 (λ x. (w.0, w.1, x))
    stands_as (instr.Store at v k place) w =
        traps (instr.Store at v k place) (length old.text + w.0) place w.2 (λ x. (w.0, w.1, x))
    stands_as (instr.Local to var) w = passes (instr.Local to var) w.0 (tt, w.1)
    stands_as (instr.Global to number literal) w = passes (instr.Global to number literal) w.0 (tt, w.1)
    stands_as (instr.Function to fun) w = passes (instr.Function to fun) w.0 (tt, w.1)
    stands_as (instr.Zero var) w = passes (instr.Zero var) w.0 (tt, w.1)
    stands_as (instr.CopyUnits from to bytes unit a b) w =
        let same = copies (bytes / unit) w.0 a b w.2 in
        stays (instr.CopyUnits from to bytes unit a b) same.0 same.1 (w.0, w.1, same.2)
    stands_as (instr.Label l) w =
        stays (instr.Label l) (ap (λ (x : Links). x.jumps) w.0) (ap (λ (x : Links). x.calls) w.0) (tt, w.1)
    stands_as (instr.Jump l) w = jumps l w
    stands_as (instr.Branch on when l) w = branches on when l w
    stands_as (instr.Call to fun args) w = ⊎_elim
        (λ (w : CallsBy ((noting old new).Calls fun) s to args ws). calls to fun args w)
        (λ (w : (new.links ≡ old.links) × FarCallsBy fun s to args ws).
        passes (instr.Call to fun args) w.0 (inr (tt, w.1)))
        w
    stands_as (instr.CallValue to v of args place) w =
        traps (instr.CallValue to v of args place) (length old.text + (length w.finds + length w.passes)) place
        w.reports
        (λ x. record {
          finds = w.finds;
          found = w.found;
          passes = w.passes;
          passed = w.passed;
          reports = x;
          keep = w.keep;
          kept = w.kept;
          are = w.are;
        })
    stands_as (instr.Lib o to args) w = passes (instr.Lib o to args) w.0 (tt, w.1)
    stands_as instr.Turn w = passes instr.Turn w.0 (tt, w.1)
    stands_as (instr.Return v) w = passes (instr.Return v) w.0 (tt, w.1)
