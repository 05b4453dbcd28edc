-- What is appended for parameters has the form of words.
use Rattle.std.proofs.Common.{◌≡◌, ◌≢◌, ◌⊎◌, inl, inr, ℕ, zero, suc, ◌+◌, ◌-◌, ◌<◌, ◌≤◌, List, [], ◌∷◌, ◌++◌, length}
use Rattle.std.proofs.Common.{map}
use Rattle.std.proofs.Common.{refl, sym, ap, ◌∙◌, subst, arith, append_assoc, ⊎_elim, pos, Bool, true, false}
use Rattle.std.specs.Prelude.{min, nat_lt, ◌==◌, if◌then◌else◌}
use Rattle.std.specs.List.{Contains}
use Rattle.std.proofs.lemmas.Bool.{cases_lt, cases_order, ne_eqb, eq-eqb}
use Rattle.std.proofs.lemmas.List.{append-nil, length-append, length-map}
use Rattle.std.proofs.lemmas.List.Elements.{Contains-append_cases, Contains-append_left, Contains-push}
use Rattle.rv_instr.specs.declared.instr.Instr.{Instr}
use Rattle.rv_instr.specs.declared.instr.Instr.TheVariants.{Store}
use Rattle.rv_instr.specs.declared.ops.StoreOp.TheVariants.{Csc}
use Rattle.purecap_abi.specs.Words.{low, near_code, load_code, store_code}
use Rattle.select_words.specs.Emitted as emitted
use Rattle.select_words.specs.Emitted.{IsIn, IsSpilled, Keep}
use Rattle.select_words.specs.Entries as entries
use Rattle.select_words.specs.Entries.{moved_from, AreMovesTo, MayGet, ForEach, SlotWords, StackWords, ParameterWords}
use Rattle.select_words.specs.Entries.{stack_place}
use Rattle.select_words.specs.Selecting.{Selecting}
use Rattle.select_words.specs.Services.{IsAside}
use Rattle.rv_select.specs.declared.function.Function.{Function}
use Rattle.rv_select.specs.declared.homes.Place.{Place}
use Rattle.rv_select.specs.declared.homes.Place.TheVariants as place
use Rattle.rv_idioms.specs.declared.moves.Move.{Move}
use Rattle.rv_select.specs.Choosing.{chosen, HasHome}
use Rattle.rv_emit.specs.Growing.{Size, Puts, reach}
use Rattle.rv_select.specs.Parameters.{TakesParameter, TakesParameters, Brings, AreMoved, Settles}
use Rattle.rv_idioms.specs.Moves.{AreFree, moving}
use Rattle.rv_select.specs.Parameters.{AreSettled}
use Rattle.rv_select.specs.Parameters.{IsLoadedTo}
use Rattle.rv_emit.proofs.Appended.{puts_then}
use Rattle.rv_select.proofs.Passes.{for_each_more}

-- a temp stands in one register
one_register : (s : Selecting) (k q r : ℕ) → IsIn s k q → IsIn s k r → q ≡ r
one_register s k q r h i = let a = h.home in let b = i.home in cc

never_both : (s : Selecting) (k r at : ℕ) → IsIn s k r → IsSpilled s k at → ⊥
never_both s k r at h i = let a = h.home in let b = i.home in absurd cc

far_stores : (from base offset scratch : ℕ) → length (store_code from base offset scratch) ≤ 3
far_stores from base offset scratch = by (nat_lt offset 2048)
  where
    by : (b : Bool) → length (if b then Store Csc from base (pos offset) ∷ []
        else near_code scratch base offset ++ Store Csc from scratch (low offset) ∷ []) ≤ 3
    by true = omega arith
    by false = omega arith

-- ---- the first eight

module _ (s : Selecting) (k : ℕ) (old : List Move) where
  -- of one more, of whose move is known
  moved_more : (new : List Move) → AreMoved s k old
      → ((m : Move) → Contains new m → Contains old m ⊎ Brings s (k + 1) m)
      → ((m : Move) → Contains old m → Contains new m)
      → ((r : ℕ) → IsIn s k r → r ≢ 10 + k → Contains new (record { from = 10 + k; to = r }))
      → AreMoved s (k + 1) new
  moved_more new a from keeps here = record {
    each = λ m among. ⊎_elim
        (λ (was : Contains old m).
        let b = a.each m was in
        let lt = b.below in
        record {
          number = b.number;
          below = omega (arith, lt);
          from = b.from;
          to = b.to;
          elsewhere = b.elsewhere;
        })
        (λ (b : Brings s (k + 1) m). b)
        (from m among);
    all = λ j r lt h d. ⊎_elim
        (λ (below : j < k). keeps (record { from = 10 + j; to = r }) (a.all j r below h d))
        (λ (least : k ≤ j).
        let same : k ≡ j = omega (arith, lt, least) in
        subst (λ x. IsIn s x r → r ≢ 10 + x → Contains new (record { from = 10 + x; to = r })) same (here r) h d)
        (cases_lt j k);
  }

  stays : ((r : ℕ) → IsIn s k r → r ≢ 10 + k → ⊥) → AreMoved s k old → AreMoved s (k + 1) old
  stays none a = moved_more old a (λ m h. inl h) (λ m h. h) (λ r h d. absurd (none r h d))

pub home_at : (f : Function) (k n : ℕ) (p : Place) → TakesParameter f k → n ≡ k
    → (n < length f.places.now.homes → HasHome f.places.now.homes f.frame.now n p)
    → HasHome f.places.now.homes f.frame.now k p
home_at f k n p t e h =
    let lt = t.chooses.homed in
    subst (λ x. HasHome f.places.now.homes f.frame.now x p) e (h (omega (arith, lt, e)))

module _ (f : Function) (k : ℕ) (t : TakesParameter f k) (moves : List Move) where
  -- its home is the register in which it comes
  pub settled_here : (r from : ℕ) → HasHome f.places.now.homes f.frame.now k (place.Register r) → from ≡ 10 + k
      → r ≡ from → Settles (chosen f) k moves moves []
  settled_here r from h e same =
      let is : IsIn (chosen f) k r = record { stands = t.stands; home = h } in
      record {
        slot = entries.Later r is refl;
        few = omega arith;
        moved = stays (chosen f) k moves (λ q i d. d (one_register (chosen f) k q r i is ∙ same ∙ e));
      }

  -- or another
  pub settled_move : (r x from : ℕ) → HasHome f.places.now.homes f.frame.now k (place.Register r) → from ≡ 10 + k
      → r ≢ from → (r < 32 → x ≡ r) → Settles (chosen f) k moves (moves ++ (record { from = from; to = x }) ∷ []) []
  settled_move r x from h e d same =
      let is : IsIn (chosen f) k r = record { stands = t.stands; home = h } in
      let to : x ≡ r = same (t.chooses.reached.registers k r is).1 in
      let m : Move = record { from = from; to = x } in
      let n = length-append moves (m ∷ []) in
      record {
        slot = entries.Later r is refl;
        few = omega (arith, n);
        moved = λ a. moved_more (chosen f) k moves (moves ++ m ∷ []) a
            (λ p among. ⊎_elim
            (λ (was : Contains moves p). inl was)
            (λ (new : Contains (m ∷ []) p). inr (subst (Brings (chosen f) (k + 1)) (only m p new) (record {
              number = k;
              below = omega arith;
              from = e;
              to = subst (IsIn (chosen f) k) (sym to) is;
              elsewhere = λ z. d (sym to ∙ z);
            })))
            (Contains-append_cases moves (m ∷ []) p among))
            (λ p was. Contains-append_left moves (m ∷ []) p was)
            (λ q i z.
            let to_q : x ≡ q = to ∙ one_register (chosen f) k r q is i in
            let is_m : m ≡ record { from = 10 + k; to = q } = cc (e, to_q) in
            subst (Contains (moves ++ m ∷ [])) is_m (Contains-push moves m));
      }
    where
      only : (m p : Move) → Contains (m ∷ []) p → m ≡ p
      only m p (zero, lt, e) = e
      only m p (suc j, lt, e) = absurd (omega (arith, lt))

  -- or a slot
  pub settled_slot : (at from right : ℕ) (old new : Size) → HasHome f.places.now.homes f.frame.now k (place.Slot at)
      → from ≡ 10 + k → right ≡ 29 → (at < reach → new.text ≡ old.text ++ store_code from 2 at right)
      → Puts (Settles (chosen f) k moves moves) old new
  settled_slot at from right old new h e d store =
      let is : IsSpilled (chosen f) k at = record {
        stands = t.stands;
        slot = h.0;
        home = h.1;
        frame = f.frame.now;
        is = refl;
        there = h.2;
      } in
      let few = far_stores from 2 at right in
      record {
        added = store_code from 2 at right;
        is = store (t.chooses.reached.slots k at is);
        are = record {
          slot = entries.Stored at is (ap (λ x. store_code x 2 at right) e ∙ ap (store_code (10 + k) 2 at) d);
          few = omega (arith, few);
          moved = stays (chosen f) k moves (λ q i z. never_both (chosen f) k q at i is);
        };
      }

-- ---- all of them

-- the next
pub settled_next : (s : Selecting) (k : ℕ) (was now : List Move) (old mid new : Size)
    → Puts (AreSettled s k was) old mid → Puts (Settles s k was now) mid new → Puts (AreSettled s (k + 1) now) old new
settled_next s k was now old mid new p q =
    puts_then (AreSettled s k was) (Settles s k was now) (AreSettled s (k + 1) now) old mid new p q
    (λ xs ys a b.
    let here : 0 + k ≡ k = omega arith in
    let next : suc k ≡ k + 1 = omega arith in
    let n = length-append xs ys in
    let m = a.few in
    let l = b.few in
    record {
      slots = subst (λ n. ForEach (SlotWords s) 0 n (xs ++ ys)) next
          (for_each_more (SlotWords s) 0 k xs ys a.slots (subst (λ n. SlotWords s n ys) (sym here) b.slot));
      few = omega (arith, n, m, l);
      moved = b.moved a.moved;
    })

-- where a register comes from that at most one move writes, of which none writes that
settled_from : (ms : List Move) (r from : ℕ) → ((m : Move) → Contains ms m → m.to ≡ r → m.from ≡ from)
    → ((m : Move) → Contains ms m → m.to ≢ from)
    → (moved_from (map moving ms) r ≡ from)
    ⊎ ((moved_from (map moving ms) r ≡ r) × ((m : Move) → Contains ms m → m.to ≢ r))
unfolding moved_from
settled_from [] r from one clear = inr (refl, λ m h. absurd (let lt = h.1 in omega (arith, lt)))
settled_from (m ∷ ms) r from one clear =
    let x = moved_from (map moving ms) r in
    ⊎_elim
    (λ (came : x ≡ from). inl (other x (λ e. clear m first (sym e ∙ came)) ∙ came))
    (λ (none : (x ≡ r) × ((n : Move) → Contains ms n → n.to ≢ r)). ⊎_elim
    (λ (e : m.to ≡ r). inl (same x (none.0 ∙ sym e) ∙ one m first e))
    (λ (d : (m.to < r) ⊎ (r < m.to)).
    let ne : m.to ≢ r = λ e. ⊎_elim (λ (l : m.to < r). omega (arith, l, e)) (λ (l : r < m.to). omega (arith, l, e)) d in
    inr (
      other x (λ e. ne (sym e ∙ none.0)) ∙ none.0,
      λ n h. ⊎_elim (λ (i : m ≡ n). λ e. ne (ap (λ (y : Move). y.to) i ∙ e))
          (λ (h : Contains ms n). none.1 n h) (cases n h),
    ))
    (cases_order m.to r))
    (settled_from ms r from (λ n h. one n (further n h)) (λ n h. clear n (further n h)))
  where
    first : Contains (m ∷ ms) m
    first = (0, omega arith, refl)

    further : (n : Move) → Contains ms n → Contains (m ∷ ms) n
    further n h = (suc h.0, (let lt = h.1 in omega (arith, lt)), h.2)

    cases : (n : Move) → Contains (m ∷ ms) n → (m ≡ n) ⊎ Contains ms n
    cases n (zero, lt, e) = inl e
    cases n (suc k, lt, e) = inr (k, omega (arith, lt), e)

    other : (x : ℕ) → x ≢ m.to → (if x == m.to then m.from else x) ≡ x
    other x d = ap (λ b. if b then m.from else x) (ne_eqb x m.to d)

    same : (x : ℕ) → x ≡ m.to → (if x == m.to then m.from else x) ≡ m.from
    same x e = ap (λ b. if b then m.from else x) (eq-eqb x m.to e)

module _ (f : Function) (params : ℕ) (t : TakesParameters f params) (ms : List Move)
    (a : AreMoved (chosen f) (min params 8) ms) where
  -- the target is in none of the registers in which arguments come
  target_aside : (m : Move) → Contains ms m → IsAside m.to
  target_aside m h =
      let b = a.each m h in
      let lt = b.below in
      ⊎_elim
      (λ (e : m.to ≡ 10 + b.number). absurd (b.elsewhere (e ∙ sym b.from)))
      (λ (i : IsAside m.to). i)
      ((t.each b.number (omega (arith, lt))).passed m.to b.to)

  comes_there : (k r : ℕ) → k < 8 → IsAside r → r ≢ 10 + k
  comes_there k r lt i e = ⊎_elim (λ (l : r < 10). omega (arith, l, e)) (λ (l : 17 < r). omega (arith, l, e, lt)) i

  pub are_free : AreFree ms
  are_free m n h i e =
      let b = a.each n i in
      let lt = b.below in
      comes_there b.number m.to (omega (arith, lt)) (target_aside m h) (e ∙ b.from)

  own_moves : (all : List Move) → ((m : Move) → Contains all m → Contains ms m)
      → AreMovesTo (MayGet (chosen f) params) (map moving all)
  own_moves [] within = tt
  own_moves (m ∷ all) within =
      let b = a.each m (within m (0, omega arith, refl)) in (
        inr (b.number, b.below, b.to),
        own_moves all (λ n h. within n (suc h.0, (let lt = h.1 in omega (arith, lt)), h.2)),
      )

  moved_home : (k r : ℕ) → k < min params 8 → IsIn (chosen f) k r → moved_from (map moving ms) r ≡ 10 + k
  moved_home k r lt is = ⊎_elim
      (λ (e : moved_from (map moving ms) r ≡ 10 + k). e)
      (λ (none : (moved_from (map moving ms) r ≡ r) × ((m : Move) → Contains ms m → m.to ≢ r)). ⊎_elim
      (λ (e : r ≡ 10 + k). none.0 ∙ e)
      (λ (d : (r < 10 + k) ⊎ (10 + k < r)).
      let ne : r ≢ 10 + k = λ e. ⊎_elim (λ (l : r < 10 + k). omega (arith, l, e))
      (λ (l : 10 + k < r). omega (arith, l, e)) d in
      absurd (none.1 (record { from = 10 + k; to = r }) (a.all k r lt is ne) refl))
      (cases_order r (10 + k)))
      (settled_from ms r (10 + k)
      (λ m h e.
      let b = a.each m h in
      let l = b.below in
      let in_r = subst (IsIn (chosen f) b.number) e b.to in
      let same = t.apart b.number k r (omega (arith, l)) (omega (arith, lt)) in_r is in
      b.from ∙ ap (λ x. 10 + x) same)
      (λ m h. comes_there k m.to (omega (arith, lt)) (target_aside m h)))

pub parameters_put : (f : Function) (params : ℕ) (ms : List Move) (old stored moved new : Size)
    → TakesParameters f params → Puts (AreSettled (chosen f) (min params 8) ms) old stored
    → (AreFree ms → moved.text ≡ stored.text ++ map moving ms)
    → Puts (ForEach (StackWords (chosen f)) 8 (params - 8)) moved new → Puts (ParameterWords (chosen f) params) old new
parameters_put f params ms old stored moved new t p q l =
    let a = p.are.moved in
    let few = p.are.few in
    let n = length-map ms moving in
    record {
      added = p.added ++ (map moving ms ++ l.added);
      is = l.is ∙ ap (λ x. x ++ l.added) (q (are_free f params t ms a) ∙ ap (λ x. x ++ map moving ms) p.is)
          ∙ append_assoc (old.text ++ p.added) (map moving ms) l.added
          ∙ append_assoc old.text p.added (map moving ms ++ l.added);
      are = record {
        stores = p.added;
        moves = map moving ms;
        loads = l.added;
        stored = p.are.slots;
        own = own_moves f params t ms a ms (λ m h. h);
        moved = moved_home f params t ms a;
        loaded = l.are;
        few = omega (arith, few, n);
        are = refl;
      };
    }

-- ---- past eight

pub loaded_slot : (f : Function) (k count : ℕ) (p : Place) → HasHome f.places.now.homes f.frame.now k p
    → ((r : ℕ) → p ≡ place.Register r → ⊥) → count ≡ 30 → TakesParameter f k → IsLoadedTo (chosen f) k count
loaded_slot f k count (place.Number v) h d e t = absurd h
loaded_slot f k count (place.Register r) h d e t = absurd (d r refl)
loaded_slot f k count (place.Slot at) h d e t = inr (
  e,
  at,
  record {
    stands = t.stands;
    slot = h.0;
    home = h.1;
    frame = f.frame.now;
    is = refl;
    there = h.2;
  },
)

kept_none : (s : Selecting) (k r : ℕ) (ws : List Instr) → IsIn s k r → Keep s k r ws → ws ≡ []
kept_none s k r ws i (emitted.Needless v n e) = let a = i.stands in absurd cc
kept_none s k r ws i (emitted.Stays h e) = e
kept_none s k r ws i (emitted.Moved q h d e) = absurd (d (one_register s k q r h i))
kept_none s k r ws i (emitted.Stored at h e) = absurd (never_both s k r at i h)

kept_slot : (s : Selecting) (k at : ℕ) (ws : List Instr) → IsSpilled s k at → Keep s k 30 ws
    → (offset : ℕ) × IsSpilled s k offset × (ws ≡ store_code 30 2 offset 31)
kept_slot s k at ws i (emitted.Needless v n e) = let a = i.stands in absurd cc
kept_slot s k at ws i (emitted.Stays h e) = absurd (never_both s k 30 at h i)
kept_slot s k at ws i (emitted.Moved q h d e) = absurd (never_both s k q at h i)
kept_slot s k at ws i (emitted.Stored offset h e) = (offset, h, e)

pub stack_loaded : (s : Selecting) (k r at left right : ℕ) (old mid new : Size) → IsLoadedTo s k r → left ≡ 28
    → right ≡ 29 → at ≡ stack_place k → k ≤ 4194304
    → (at < reach → mid.text ≡ old.text ++ load_code r left at right) → Puts (Keep s k r) mid new
    → Puts (StackWords s k) old new
stack_loaded s k r at left right old mid new to e d h le load keep =
    let near : at < reach = omega (arith, h, le) in
    let loads : Puts (λ ws. ws ≡ load_code r 28 (stack_place k) 29) old mid = record {
      added = load_code r 28 (stack_place k) 29;
      is = load near ∙ ap (λ x. old.text ++ load_code r x at right) e ∙ ap (λ x. old.text ++ load_code r 28 x right) h
          ∙ ap (λ x. old.text ++ load_code r 28 (stack_place k) x) d;
      are = refl;
    } in
    puts_then (λ ws. ws ≡ load_code r 28 (stack_place k) 29) (Keep s k r) (StackWords s k) old mid new loads keep
    (λ ls ks l p. ⊎_elim
    (λ (i : IsIn s k r).
    entries.Loaded r i (ap (λ x. ls ++ x) (kept_none s k r ks i p) ∙ append-nil ls ∙ l))
    (λ (i : (r ≡ 30) × (at : ℕ) × IsSpilled s k at).
    let found = kept_slot s k i.1 ks i.2 (subst (λ x. Keep s k x ks) i.0 p) in
    entries.Spilled found.0 found.1
    (ap (λ x. x ++ ks) (l ∙ ap (λ x. load_code x 28 (stack_place k) 29) i.0)
    ∙ ap (λ x. load_code 30 28 (stack_place k) 29 ++ x) found.2))
    to)
