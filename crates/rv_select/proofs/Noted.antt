-- What is noted of the words of instructions, one after another.
use Rattle.std.proofs.Common.{◌≡◌, ℕ, zero, suc, ◌+◌, ◌/◌, ◌<◌, ◌≤◌, ◌⊎◌, ⊎_elim, pos, Bool, true, false}
use Rattle.std.proofs.Common.{List, [], ◌∷◌, ◌++◌, length, refl, sym, ap, ◌∙◌, subst, arith, append_assoc}
use Rattle.std.proofs.Common.{if◌then◌else◌, eq-eqb, get_or, take}
use Rattle.std.specs.Prelude.{◌==◌, ◌||◌, not}
use Rattle.std.specs.List.{All, Contains}
use Rattle.std.proofs.lemmas.Bool.{and_parts, cases_eq, eqb-true, eqb-false, ne_eqb, or_parts, cases_Bool}
use Rattle.std.proofs.lemmas.List.{append-nil, length-append, take_more}
use Rattle.std.proofs.lemmas.List.Elements.{All-append, All-nil, All-push, All-weaker, Contains-append_left}
use Rattle.std.proofs.lemmas.List.Elements.{Contains-append_right, Contains-push}
use Rattle.ck_base.specs.declared.positions.Pos.{Pos}
use Rattle.rv_instr.specs.declared.instr.Instr.{Instr}
use Rattle.rv_instr.specs.declared.instr.Instr.TheVariants.{Branch, Cjal}
use Rattle.select_words.specs.Jumps.{inverted}
use Rattle.select_words.specs.Selecting.{Selecting}
use Rattle.tac_ir.specs.Meaning.{is_label}
use Rattle.tac_ir.specs.Temps.{behind}
use Rattle.tac_ir.specs.WellFormed.{has_label, label_is_new, labels_differ}
use Rattle.tac_ir.specs.declared.code.TacInstr.{TacInstr}
use Rattle.tac_ir.specs.declared.code.TacInstr.TheVariants as instr
use Rattle.rv_select.specs.Following.{Continues, Appends}
use Rattle.rv_emit.specs.Growing.{Size, Links, line_at, trapping, marking, jumping, calling}
use Rattle.rv_emit.specs.Leading.{StandsAt}
use Rattle.rv_select.specs.Noting.{noting, Selects, SelectsAll}
use Rattle.rv_select.specs.Selected.{CallsBy, FarCallsBy, WordsOf, noted_copy}
use Rattle.rv_emit.specs.Jump.{Jump}
use Rattle.rv_emit.specs.Mark.{Mark}

-- ---- what is appended, one behind the other

pub continues_none : {A : Type 0} (xs ys : List A) → ys ≡ xs → Continues xs ys
continues_none xs ys e = record { added = []; is = e ∙ sym (append-nil xs) }

pub continues_then : {A : Type 0} (xs ys zs : List A) → Continues xs ys → Continues ys zs → Continues xs zs
continues_then xs ys zs a b = record {
  added = a.added ++ b.added;
  is = b.is ∙ ap (λ x. x ++ b.added) a.is ∙ append_assoc xs a.added b.added;
}

pub continues_more : {A : Type 0} (xs ys : List A) → Continues xs ys → length xs ≤ length ys
continues_more xs ys a = let e = ap length a.is ∙ length-append xs a.added in omega (arith, e)

pub continues_keeps : {A : Type 0} (xs ys : List A) (x : A) → Continues xs ys → Contains xs x → Contains ys x
continues_keeps xs ys x a h = subst (λ zs. Contains zs x) (sym a.is) (Contains-append_left xs a.added x h)

pub appends_none : (from to : ℕ) (js ks : List Jump) → ks ≡ js → Appends from to js ks
appends_none from to js ks e = record {
  added = [];
  is = e ∙ sym (append-nil js);
  inside = All-nil (λ (j : Jump). (from ≤ j.at) × (j.at < to));
}

pub appends_one : (from to at l : ℕ) (js ks : List Jump) → ks ≡ js ++ (record { at = at; to = l }) ∷ [] → from ≤ at
    → at < to → Appends from to js ks
appends_one from to at l js ks e low high = record {
  added = (record { at = at; to = l }) ∷ [];
  is = e;
  inside = All-push (λ (j : Jump). (from ≤ j.at) × (j.at < to)) [] (record { at = at; to = l })
      (All-nil (λ (j : Jump). (from ≤ j.at) × (j.at < to))) (low, high);
}

pub appends_then : (from mid to : ℕ) (is js ks : List Jump) → Appends from mid is js → Appends mid to js ks → from ≤ mid
    → mid ≤ to → Appends from to is ks
appends_then from mid to is js ks a b low high = record {
  added = a.added ++ b.added;
  is = b.is ∙ ap (λ x. x ++ b.added) a.is ∙ append_assoc is a.added b.added;
  inside = All-append (λ (j : Jump). (from ≤ j.at) × (j.at < to)) a.added b.added
      (All-weaker (λ (j : Jump). (from ≤ j.at) × (j.at < mid)) (λ (j : Jump). (from ≤ j.at) × (j.at < to))
      (λ j h. (h.0, omega (arith, h.1, high))) a.added a.inside)
      (All-weaker (λ (j : Jump). (mid ≤ j.at) × (j.at < to)) (λ (j : Jump). (from ≤ j.at) × (j.at < to))
      (λ j h. (omega (arith, h.0, low), h.1)) b.added b.inside);
}

-- jumps from words before one, and those that were appended
pub appends_below : (from to : ℕ) (js ks : List Jump) → All (λ j. j.at < from) js → Appends from to js ks → from ≤ to
    → All (λ j. j.at < to) ks
appends_below from to js ks h a le =
    subst (All (λ (j : Jump). j.at < to)) (sym a.is)
    (All-append (λ (j : Jump). j.at < to) js a.added
    (All-weaker (λ (j : Jump). j.at < from) (λ (j : Jump). j.at < to) (λ j lt. omega (arith, lt, le)) js h)
    (All-weaker (λ (j : Jump). (from ≤ j.at) × (j.at < to)) (λ (j : Jump). j.at < to) (λ j b. b.1) a.added a.inside))

-- ---- words, with labels

pub record Notes (marks : List Mark) (old new : Size) : Type 0 where
  pub text : Continues old.text new.text
  pub lines : Continues old.links.lines new.links.lines
  pub jumps : Appends (length old.text) (length new.text) old.links.jumps new.links.jumps
  pub calls : Appends (length old.text) (length new.text) old.links.calls new.links.calls
  pub marked : new.links.marks ≡ old.links.marks ++ marks
  pub entered : new.links.entered ≡ old.links.entered
  pub far : new.links.far ≡ old.links.far

pub notes_none : (old new : Size) → new.text ≡ old.text → new.links ≡ old.links → Notes [] old new
notes_none old new e f = record {
  text = continues_none old.text new.text e;
  lines = continues_none old.links.lines new.links.lines (ap (λ (x : Links). x.lines) f);
  jumps = appends_none (length old.text) (length new.text) old.links.jumps new.links.jumps
      (ap (λ (x : Links). x.jumps) f);
  calls = appends_none (length old.text) (length new.text) old.links.calls new.links.calls
      (ap (λ (x : Links). x.calls) f);
  marked = ap (λ (x : Links). x.marks) f ∙ sym (append-nil old.links.marks);
  entered = ap (λ (x : Links). x.entered) f;
  far = ap (λ (x : Links). x.far) f;
}

pub notes_then : (ms ns : List Mark) (old mid new : Size) → Notes ms old mid → Notes ns mid new
    → Notes (ms ++ ns) old new
notes_then ms ns old mid new a b =
    let low = continues_more old.text mid.text a.text in
    let high = continues_more mid.text new.text b.text in
    record {
      text = continues_then old.text mid.text new.text a.text b.text;
      lines = continues_then old.links.lines mid.links.lines new.links.lines a.lines b.lines;
      jumps = appends_then (length old.text) (length mid.text) (length new.text) old.links.jumps mid.links.jumps
          new.links.jumps a.jumps b.jumps low high;
      calls = appends_then (length old.text) (length mid.text) (length new.text) old.links.calls mid.links.calls
          new.links.calls a.calls b.calls low high;
      marked = b.marked ∙ ap (λ x. x ++ ns) a.marked ∙ append_assoc old.links.marks ms ns;
      entered = b.entered ∙ a.entered;
      far = b.far ∙ a.far;
    }

-- ---- one instruction

abbrev pub marks_of : TacInstr → (at : ℕ) → List Mark
marks_of (instr.Label l) at = (record { label = l; at = at }) ∷ []
marks_of i at = []

module _ (s : Selecting) (old new : Size) where
  module _ (ws : List Instr) (is : new.text ≡ old.text ++ ws) where
    abbrev start : ℕ
    start = length old.text

    abbrev end : ℕ
    end = length new.text

    long : end ≡ start + length ws
    long = ap length is ∙ length-append old.text ws

    notes : (links : Links) (ms : List Mark) → new.links ≡ links → Continues old.links.lines links.lines
        → Appends start end old.links.jumps links.jumps → Appends start end old.links.calls links.calls
        → links.marks ≡ old.links.marks ++ ms → links.entered ≡ old.links.entered → links.far ≡ old.links.far
        → Notes ms old new
    notes links ms e ls js cs m h g = record {
      text = record { added = ws; is = is };
      lines = subst (λ (x : Links). Continues old.links.lines x.lines) (sym e) ls;
      jumps = subst (λ (x : Links). Appends start end old.links.jumps x.jumps) (sym e) js;
      calls = subst (λ (x : Links). Appends start end old.links.calls x.calls) (sym e) cs;
      marked = ap (λ (x : Links). x.marks) e ∙ m;
      entered = ap (λ (x : Links). x.entered) e ∙ h;
      far = ap (λ (x : Links). x.far) e ∙ g;
    }

    no_jumps : Appends start end old.links.jumps old.links.jumps
    no_jumps = appends_none start end old.links.jumps old.links.jumps refl

    no_calls : Appends start end old.links.calls old.links.calls
    no_calls = appends_none start end old.links.calls old.links.calls refl

    no_marks : old.links.marks ≡ old.links.marks ++ []
    no_marks = sym (append-nil old.links.marks)

    nothing : new.links ≡ old.links → Notes [] old new
    nothing e =
        notes old.links [] e (continues_none old.links.lines old.links.lines refl) no_jumps no_calls no_marks refl refl

    a_trap : (at : ℕ) (place : Pos) → new.links ≡ trapping old.links at place 0 → Notes [] old new
    a_trap at place e =
        notes (trapping old.links at place 0) [] e (record { added = line_at at place 0 ∷ []; is = refl }) no_jumps
        no_calls no_marks refl refl

    two_traps : (at to : ℕ) (a b : Pos) → new.links ≡ trapping (trapping old.links at a 0) to b 0 → Notes [] old new
    two_traps at to a b e =
        notes (trapping (trapping old.links at a 0) to b 0) [] e (record {
          added = line_at at a 0 ∷ line_at to b 0 ∷ [];
          is = append_assoc old.links.lines (line_at at a 0 ∷ []) (line_at to b 0 ∷ []);
        }) no_jumps no_calls no_marks refl refl

    a_copy : (units skip : ℕ) (a b : Pos) → noted_copy (noting old new) units skip a b → Notes [] old new
    a_copy zero skip a b e = nothing e
    a_copy (suc n) skip a b e = two_traps (start + skip) (start + skip + 1) a b e

    a_label : (l : ℕ) → new.links ≡ marking old.links start l → Notes ((record { label = l; at = start }) ∷ []) old new
    a_label l e =
        notes (marking old.links start l) ((record { label = l; at = start }) ∷ []) e
        (continues_none old.links.lines old.links.lines refl) no_jumps no_calls refl refl refl

    a_jump : (skip l : ℕ) → skip < length ws → new.links ≡ jumping old.links (start + skip) l → Notes [] old new
    a_jump skip l lt e =
        notes (jumping old.links (start + skip) l) [] e (continues_none old.links.lines old.links.lines refl)
        (appends_one start end (start + skip) l old.links.jumps
        (old.links.jumps ++ (record { at = start + skip; to = l }) ∷ [])
        refl (omega arith) (omega (arith, lt, long))) no_calls no_marks refl refl

    a_call : (skip l : ℕ) → skip < length ws → new.links ≡ calling old.links (start + skip) l → Notes [] old new
    a_call skip l lt e =
        notes (calling old.links (start + skip) l) [] e (continues_none old.links.lines old.links.lines refl) no_jumps
        (appends_one start end (start + skip) l old.links.calls
        (old.links.calls ++ (record { at = start + skip; to = l }) ∷ [])
        refl (omega arith) (omega (arith, lt, long))) no_marks refl refl

    -- the word behind some
    behind_some : (pre post : List Instr) (i : Instr) → ws ≡ pre ++ i ∷ post → length pre < length ws
    behind_some pre post i e = let f = ap length e ∙ length-append pre (i ∷ post) in omega (arith, f)

    noted : (i : TacInstr) → WordsOf (noting old new) s i ws → Notes (marks_of i start) old new
    noted (instr.Const to k v) w = nothing w.0
    noted (instr.Copy to from) w = nothing w.0
    noted (instr.Int o k to a b) w = nothing w.0
    noted (instr.Cmp o k to a b) w = nothing w.0
    noted (instr.Convert to from a b) w = nothing w.0
    noted (instr.Cap o to a b) w = nothing w.0
    noted (instr.Offset to base by) w = nothing w.0
    noted (instr.Narrow to base n exact) w = nothing w.0
    noted (instr.Load to from k place) w = a_trap (start + w.0) place w.2
    noted (instr.Store at v k place) w = a_trap (start + w.0) place w.2
    noted (instr.Local to var) w = nothing w.0
    noted (instr.Global to number literal) w = nothing w.0
    noted (instr.Function to fun) w = nothing w.0
    noted (instr.Zero var) w = nothing w.0
    noted (instr.CopyUnits from to bytes unit a b) w = a_copy (bytes / unit) w.0 a b w.2
    noted (instr.Label l) w = a_label l w.0
    noted (instr.Jump l) w = a_jump 0 l (behind_some [] [] (Cjal 0 w.offset) w.are) w.leads.1
    noted (instr.Branch on when l) w =
        let b = w.branches in
        let pre = w.finds ++ Branch (inverted when) b.a 0 (pos 8) ∷ [] in
        let size : length pre ≡ length w.finds + 1 =
        length-append w.finds (Branch (inverted when) b.a 0 (pos 8) ∷ []) in
        let lt = behind_some pre [] (Cjal 0 w.offset)
        (b.are ∙ sym (append_assoc w.finds (Branch (inverted when) b.a 0 (pos 8) ∷ []) (Cjal 0 w.offset ∷ []))) in
        a_jump (length w.finds + 1) l (omega (arith, lt, size)) w.leads.1
    noted (instr.Call to fun args) w = ⊎_elim
        (λ (w : CallsBy ((noting old new).Calls fun) s to args ws).
        a_call (length w.passes) fun
        (behind_some w.passes w.keep (Cjal 1 w.offset) (w.are ∙ append_assoc w.passes (Cjal 1 w.offset ∷ []) w.keep))
        w.leads.1)
        (λ (w : (new.links ≡ old.links) × FarCallsBy fun s to args ws). nothing w.0)
        w
    noted (instr.CallValue to v of args place) w =
        a_trap (start + (length w.finds + length w.passes)) place w.reports
    noted (instr.Lib o to args) w = nothing w.0
    noted instr.Turn w = nothing w.0
    noted (instr.Return v) w = nothing w.0

  pub noted_one : (i : TacInstr) → Selects s i old new → Notes (marks_of i (length old.text)) old new
  noted_one i p = noted p.added p.is i p.are

  no_words : (i : TacInstr) (l : ℕ) → is_label i l ≡ true → Selects s i old new → new.text ≡ old.text
  no_words (instr.Label k) l e p = p.is ∙ ap (λ x. old.text ++ x) p.are.1 ∙ append-nil old.text
  no_words i l e p = absurd cc

is_mark : (i : TacInstr) (l at : ℕ) → is_label i l ≡ true → marks_of i at ≡ (record { label = l; at = at }) ∷ []
is_mark (instr.Label k) l at e = ap (λ (n : ℕ). marks_of (instr.Label n) at) (eqb-true k l e)
is_mark i l at e = absurd cc

not_mark : (i : TacInstr) (l at : ℕ) → is_label i l ≡ false → All (λ m. m.label ≡ l → ⊥) (marks_of i at)
not_mark (instr.Label k) l at e =
    All-push (λ (m : Mark). m.label ≡ l → ⊥) [] (record { label = k; at = at })
    (All-nil (λ (m : Mark). m.label ≡ l → ⊥))
    (eqb-false k l e)
not_mark i l at e = All-nil (λ (m : Mark). m.label ≡ l → ⊥)

-- ---- instructions one after another

module _ (s : Selecting) where
  -- a code with the text and links of another
  abbrev WordsFrom : Size → TacInstr → List Instr → List Instr → Links → Type 0
  WordsFrom new i ws text links =
      WordsOf (noting (record { words = 0; text = text; links = links; top = 0 }) new) s i ws

  alike : (i : TacInstr) (old mid new : Size) → mid.text ≡ old.text → mid.links ≡ old.links → Selects s i mid new
      → Selects s i old new
  alike i old mid new e f p = record {
    added = p.added;
    is = p.is ∙ ap (λ x. x ++ p.added) e;
    are = subst (WordsFrom new i p.added old.text) f
        (subst (λ (x : List Instr). WordsFrom new i p.added x mid.links) e p.are);
  }

  pub selects_more : (is : List TacInstr) (i : TacInstr) (old mid new : Size) → SelectsAll s is old mid
      → Selects s i mid new → SelectsAll s (is ++ i ∷ []) old new
  selects_more [] i old mid new h p = (new, alike i old mid new h.0 h.1 p, (refl, refl))
  selects_more (x ∷ is) i old mid new h p = (h.0, h.1, selects_more is i h.0 mid new h.2 p)

  -- so many of some, and the next
  pub selects_next : (all : List TacInstr) (n : ℕ) (i : TacInstr) (old mid new : Size) → n < length all
      → i ≡ get_or all n i → SelectsAll s (take n all) old mid → Selects s i mid new
      → SelectsAll s (take (n + 1) all) old new
  selects_next all n i old mid new lt is h p =
      subst (λ xs. SelectsAll s xs old new) (sym (take_more all n i lt))
      (selects_more (take n all) (get_or all n i) old mid new h (subst (λ x. Selects s x mid new) is p))

  abbrev pub all_marks : (is : List TacInstr) (old new : Size) → SelectsAll s is old new → List Mark
  all_marks [] old new h = []
  all_marks (i ∷ is) old new h = marks_of i (length old.text) ++ all_marks is h.0 new h.2

  pub noted_all : (is : List TacInstr) (old new : Size) (h : SelectsAll s is old new)
      → Notes (all_marks is old new h) old new
  noted_all [] old new h = notes_none old new h.0 h.1
  noted_all (i ∷ is) old new h =
      notes_then (marks_of i (length old.text)) (all_marks is h.0 new h.2) old h.0 new (noted_one s old h.0 i h.1)
      (noted_all is h.0 new h.2)

  -- where the last so many of them begin
  abbrev pub place : (is : List TacInstr) (old new : Size) → SelectsAll s is old new → ℕ → ℕ
  place [] old new h n = length new.text
  place (i ∷ is) old new h n = if n == suc (length is) then length old.text else place is h.0 new h.2 n

  -- ---- places

  if_same : (n m a b : ℕ) → n ≡ m → (if n == m then a else b) ≡ a
  if_same n m a b e = ap (λ (v : Bool). if v then a else b) (eq-eqb n m e)

  if_other : (n m a b : ℕ) → (n ≡ m → ⊥) → (if n == m then a else b) ≡ b
  if_other n m a b d = ap (λ (v : Bool). if v then a else b) (ne_eqb n m d)

  pub place_first : (is : List TacInstr) (old new : Size) (h : SelectsAll s is old new)
      → place is old new h (length is) ≡ length old.text
  place_first [] old new h = ap length h.0
  place_first (i ∷ is) old new h = if_same (suc (length is)) (suc (length is)) (length old.text)
      (place is h.0 new h.2 (suc (length is))) refl

  place_later : (i : TacInstr) (is : List TacInstr) (old new : Size) (h : SelectsAll s (i ∷ is) old new) (n : ℕ)
      → n ≤ length is → place (i ∷ is) old new h n ≡ place is h.0 new h.2 n
  place_later i is old new h n le = if_other n (suc (length is)) (length old.text) (place is h.0 new h.2 n)
      (λ e. omega (arith, e, le))

  -- none of them begin where all end
  pub place_last : (is : List TacInstr) (old new : Size) (h : SelectsAll s is old new)
      → place is old new h 0 ≡ length new.text
  place_last [] old new h = refl
  place_last (i ∷ is) old new h = place_later i is old new h 0 (omega arith) ∙ place_last is h.0 new h.2

  pub place_most : (is : List TacInstr) (old new : Size) (h : SelectsAll s is old new) (n : ℕ)
      → place is old new h n ≤ length new.text
  place_most [] old new h n = omega arith
  place_most (i ∷ is) old new h n = ⊎_elim
      (λ (e : n ≡ suc (length is)).
      let l = continues_more old.text new.text (noted_all (i ∷ is) old new h).text in
      let here = if_same n (suc (length is)) (length old.text) (place is h.0 new h.2 n) e in
      omega (arith, l, here))
      (λ (d : n ≡ suc (length is) → ⊥).
      let l = place_most is h.0 new h.2 n in
      let here = if_other n (suc (length is)) (length old.text) (place is h.0 new h.2 n) d in
      omega (arith, l, here))
      (cases_eq n (suc (length is)))

  pub place_least : (is : List TacInstr) (old new : Size) (h : SelectsAll s is old new) (n : ℕ)
      → length old.text ≤ place is old new h n
  place_least [] old new h n = let e = ap length h.0 in omega (arith, e)
  place_least (i ∷ is) old new h n = ⊎_elim
      (λ (e : n ≡ suc (length is)).
      let here = if_same n (suc (length is)) (length old.text) (place is h.0 new h.2 n) e in omega (arith, here))
      (λ (d : n ≡ suc (length is) → ⊥).
      let l = place_least is h.0 new h.2 n in
      let first = continues_more old.text (let m : Size = h.0 in m.text) (noted_one s old h.0 i h.1).text in
      let here = if_other n (suc (length is)) (length old.text) (place is h.0 new h.2 n) d in
      omega (arith, l, first, here))
      (cases_eq n (suc (length is)))

  -- an instruction amid them
  pub record Splits (before : List TacInstr) (i : TacInstr) (rest : List TacInstr) (at : ℕ → ℕ) (old new : Size)
      : Type 0 where
    pub from : Size
    pub to : Size
    pub first : SelectsAll s before old from
    pub own : Selects s i from to
    pub later : SelectsAll s rest to new
    pub at_own : at (suc (length rest)) ≡ length from.text
    pub at_later : at (length rest) ≡ length to.text

  pub splits : (before is : List TacInstr) (i : TacInstr) (rest : List TacInstr) (old new : Size)
      → is ≡ before ++ i ∷ rest
      → (h : SelectsAll s is old new) → Splits before i rest (place is old new h) old new
  splits [] [] i rest old new e h = absurd cc
  splits [] (j ∷ js) i rest old new e h =
      let same : j ≡ i = cc in
      let more : js ≡ rest = cc in
      let size : length rest ≡ length js = ap length (sym more) in
      record {
        from = old;
        to = h.0;
        first = (refl, refl);
        own = subst (λ x. Selects s x old h.0) same h.1;
        later = subst (λ xs. SelectsAll s xs h.0 new) more h.2;
        at_own = ap (λ n. place (j ∷ js) old new h (suc n)) size ∙ place_first (j ∷ js) old new h;
        at_later = ap (place (j ∷ js) old new h) size ∙ place_later j js old new h (length js) (omega arith)
            ∙ place_first js h.0 new h.2;
      }
  splits (b ∷ bs) [] i rest old new e h = absurd cc
  splits (b ∷ bs) (j ∷ js) i rest old new e h =
      let same : j ≡ b = cc in
      let more : js ≡ bs ++ i ∷ rest = cc in
      let size = ap length more ∙ length-append bs (i ∷ rest) in
      let l = splits bs js i rest h.0 new more h.2 in
      record {
        from = l.from;
        to = l.to;
        first = (h.0, subst (λ x. Selects s x old h.0) same h.1, l.first);
        own = l.own;
        later = l.later;
        at_own = place_later j js old new h (suc (length rest)) (omega (arith, size)) ∙ l.at_own;
        at_later = place_later j js old new h (length rest) (omega (arith, size)) ∙ l.at_later;
      }

  -- ---- labels

  behind_few : (l : ℕ) (is : List TacInstr) → length (behind l is) ≤ length is
  behind_few l [] = omega arith
  behind_few l (i ∷ is) = by (is_label i l) (behind_few l is)
    where
      by : (v : Bool) → length (behind l is) ≤ length is → length (if v then is else behind l is) ≤ suc (length is)
      by true h = omega arith
      by false h = omega (arith, h)

  abbrev mark_at : (l at : ℕ) → Mark
  mark_at l at = record { label = l; at = at }

  -- what a label says of the place behind it
  module _ (l : ℕ) (i : TacInstr) (is : List TacInstr) (old new : Size) (h : SelectsAll s (i ∷ is) old new) where
    here : is_label i l ≡ true → place (i ∷ is) old new h (length (behind l (i ∷ is))) ≡ length old.text
    here e =
        ap (λ v. place (i ∷ is) old new h (length (if v then is else behind l is))) e
        ∙ place_later i is old new h (length is) (omega arith) ∙ place_first is h.0 new h.2
        ∙ ap length (no_words s old h.0 i l e h.1)

    there : is_label i l ≡ false
        → place (i ∷ is) old new h (length (behind l (i ∷ is))) ≡ place is h.0 new h.2 (length (behind l is))
    there e =
        ap (λ v. place (i ∷ is) old new h (length (if v then is else behind l is))) e
        ∙ place_later i is old new h (length (behind l is)) (behind_few l is)

  label_stands : (l : ℕ) (is : List TacInstr) (old new : Size) (h : SelectsAll s is old new) → has_label is l ≡ true
      → Contains (all_marks is old new h) (mark_at l (place is old new h (length (behind l is))))
  label_stands l [] old new h has = absurd cc
  label_stands l (i ∷ is) old new h has = ⊎_elim
      (λ (e : is_label i l ≡ true).
      subst (λ n. Contains (all_marks (i ∷ is) old new h) (mark_at l n)) (sym (here l i is old new h e))
      (Contains-append_left (marks_of i (length old.text)) (all_marks is h.0 new h.2) (mark_at l (length old.text))
      (subst (λ ms. Contains ms (mark_at l (length old.text))) (sym (is_mark i l (length old.text) e))
      (Contains-push [] (mark_at l (length old.text))))))
      (λ (e : is_label i l ≡ false).
      subst (λ n. Contains (all_marks (i ∷ is) old new h) (mark_at l n)) (sym (there l i is old new h e))
      (Contains-append_right (marks_of i (length old.text)) (all_marks is h.0 new h.2)
      (mark_at l (place is h.0 new h.2 (length (behind l is))))
      (label_stands l is h.0 new h.2 (ap (λ v. v || has_label is l) (sym e) ∙ has))))
      (cases_Bool (is_label i l))

  no_label : (l : ℕ) (is : List TacInstr) (old new : Size) (h : SelectsAll s is old new) → has_label is l ≡ false
      → All (λ m. m.label ≡ l → ⊥) (all_marks is old new h)
  no_label l [] old new h none = All-nil (λ (m : Mark). m.label ≡ l → ⊥)
  no_label l (i ∷ is) old new h none =
      let q = or_parts (is_label i l) (has_label is l) none in
      All-append (λ (m : Mark). m.label ≡ l → ⊥) (marks_of i (length old.text)) (all_marks is h.0 new h.2)
      (not_mark i l (length old.text) q.0) (no_label l is h.0 new h.2 q.1)

  not_later : (l : ℕ) (i : TacInstr) (is : List TacInstr) → is_label i l ≡ true → label_is_new i is ≡ true
      → has_label is l ≡ false
  not_later l (instr.Label k) is e new =
      subst (λ n. has_label is n ≡ false) (eqb-true k l e) (by (has_label is k) new)
    where
      by : (v : Bool) → not v ≡ true → v ≡ false
      by true h = absurd cc
      by false h = refl
  not_later l i is e new = absurd cc

  label_once : (l : ℕ) (is : List TacInstr) (old new : Size) (h : SelectsAll s is old new) → labels_differ is ≡ true
      → All (λ m. m.label ≡ l → m.at ≡ place is old new h (length (behind l is))) (all_marks is old new h)
  label_once l [] old new h d = All-nil (λ (m : Mark). m.label ≡ l → m.at ≡ place [] old new h 0)
  label_once l (i ∷ is) old new h d =
      let q = and_parts (label_is_new i is) (labels_differ is) d in
      let to = place (i ∷ is) old new h (length (behind l (i ∷ is))) in
      All-append (λ (m : Mark). m.label ≡ l → m.at ≡ to) (marks_of i (length old.text)) (all_marks is h.0 new h.2)
      (⊎_elim
      (λ (e : is_label i l ≡ true).
      subst (All (λ (m : Mark). m.label ≡ l → m.at ≡ to)) (sym (is_mark i l (length old.text) e))
      (All-push (λ (m : Mark). m.label ≡ l → m.at ≡ to) [] (mark_at l (length old.text))
      (All-nil (λ (m : Mark). m.label ≡ l → m.at ≡ to)) (λ x. sym (here l i is old new h e))))
      (λ (e : is_label i l ≡ false).
      All-weaker (λ (m : Mark). m.label ≡ l → ⊥) (λ (m : Mark). m.label ≡ l → m.at ≡ to) (λ m n x. absurd (n x))
      (marks_of i (length old.text)) (not_mark i l (length old.text) e))
      (cases_Bool (is_label i l)))
      (⊎_elim
      (λ (e : is_label i l ≡ true).
      All-weaker (λ (m : Mark). m.label ≡ l → ⊥) (λ (m : Mark). m.label ≡ l → m.at ≡ to) (λ m n x. absurd (n x))
      (all_marks is h.0 new h.2) (no_label l is h.0 new h.2 (not_later l i is e q.0)))
      (λ (e : is_label i l ≡ false).
      All-weaker (λ (m : Mark). m.label ≡ l → m.at ≡ place is h.0 new h.2 (length (behind l is)))
      (λ (m : Mark). m.label ≡ l → m.at ≡ to) (λ m n x. n x ∙ sym (there l i is old new h e))
      (all_marks is h.0 new h.2) (label_once l is h.0 new h.2 q.1))
      (cases_Bool (is_label i l)))

  pub label_at : (l : ℕ) (is : List TacInstr) (old new : Size) (h : SelectsAll s is old new) → old.links.marks ≡ []
      → has_label is l ≡ true → labels_differ is ≡ true
      → StandsAt new.links.marks l (place is old new h (length (behind l is)))
  label_at l is old new h none has d =
      let marked : new.links.marks ≡ all_marks is old new h =
      (noted_all is old new h).marked ∙ ap (λ ms. ms ++ all_marks is old new h) none in
      let at = place is old new h (length (behind l is)) in
      record {
        some = subst (λ ms. Contains ms (mark_at l at)) (sym marked) (label_stands l is old new h has);
        only = subst (All (λ (m : Mark). m.label ≡ l → m.at ≡ at)) (sym marked) (label_once l is old new h d);
      }
