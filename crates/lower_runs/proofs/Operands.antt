-- Operands, and what is done with them.
use Rattle.std.proofs.Common.{◌≡◌, ℕ, ◌+◌, ◌≤◌, Bool, true, List, get_or, Option}
use Rattle.std.proofs.Common.{Some, None, refl, sym, ap, ◌∙◌, arith}
use Rattle.std.specs.Prelude.{slice_get, slice_set, ◌&&◌}
use Rattle.std.proofs.lemmas.Option.{slice_get-get_or}
use Rattle.ck_base.specs.World.{World}
use Rattle.cap_ops.specs.Permissions.{data_permissions}
use Rattle.c_tree.specs.declared.typed.Typed.{Typed}
use Rattle.obj_mem.specs.Values.{Value}
use Rattle.cheri_c_sem.specs.Kinds.{zero_of}
use Rattle.cheri_c_sem.specs.Modes.{Store}
use Rattle.cheri_c_sem.specs.Meaning.{given, value_of}
use Rattle.cheri_c_sem.specs.Operations.{Operations}
use Rattle.cheri_c_sem.specs.Steps.{State, Fate, Then, answer}
use Rattle.cheri_c_sem.specs.Tree.{Ex, Exs, Nil, Cons}
use Rattle.tac_ir.specs.Effects.{kind_of}
use Rattle.tac_ir.specs.Meaning.{Running}
use Rattle.tac_ir.specs.declared.code.Tac.{Tac}
use Rattle.tac_ir.specs.declared.code.TacInstr.{TacInstr}
use Rattle.tac_ir.specs.declared.code.TacKind.{TacKind}
use Rattle.lower_runs.specs.States.{Scene, IsScene, IsOf, IsPlaced, Agrees}
use Rattle.lower_runs.specs.Operating.{Code}
use Rattle.lower_runs.specs.Expressions as code
use Rattle.lower_runs.specs.Expressions.{Mark, more, spares, spare, IsInPlace}
use Rattle.lower_runs.specs.Simulation as stay
use Rattle.lower_runs.specs.Simulation.{IsPiece, HasRoom, IsTarget, Stays, Holds, Done, Valued, Held, HeldIn}
use Rattle.lower_runs.specs.Simulation.{OperandInRuns, Scratched, Operated, UnaryRuns, BinaryRuns, ValueRuns}
use Rattle.lower_runs.specs.Simulation.{OperandRuns, PairHeld, PairRuns, goes}
use Rattle.lower_runs.proofs.Agreement.{and_left, and_right, get_set_same, free_own, went_nowhere}
use Rattle.lower_runs.proofs.Agreement.{went_then, went_set, went_less, agrees_set, agrees_any, agrees_own, stays}
use Rattle.lower_runs.proofs.Agreement.{stays_below}
use Rattle.lower_runs.proofs.Labels.{nothing_own, both_own, then_own}
use Rattle.lower_runs.proofs.Steps.{zero_is_of, data_twelve_bits, converts_same, lands}

module _ (ops : Operations Store) (placed : IsPlaced ops) (w : World) (t : Tac) (p : Typed)
    (objects : ℕ → List ℕ) (r : Running) (call : ℕ → List Value → Then Store Value) (g : Scene)
    (scene : IsScene g) where
  abbrev run : List TacInstr → State Store → List (Option Value) → Fate
  run = goes ops w t p objects r call g

  abbrev Value_runs : (k : TacKind) (e : Ex) (to : ℕ) (m n : Mark) (c : Code) → Type 0
  Value_runs = ValueRuns ops w t p objects r call g

  abbrev Operand_runs : (later : Exs) (k : TacKind) (e : Ex) (at : ℕ) (m n : Mark) (c : Code) → Type 0
  Operand_runs = OperandRuns ops w t p objects r call g

  abbrev Pair_runs : (j : TacKind) (a : Ex) (x : ℕ) (k : TacKind) (b : Ex) (y : ℕ) (m n : Mark) (c : Code) → Type 0
  Pair_runs = PairRuns ops w t p objects r call g

  -- ---- values that stand in a temp already

  none_some : (o : Option Value) → None ≡ Some o → ⊥
  none_some o h = cc

  pub in_place : (later : Exs) (k : TacKind) (e : Ex) (at : ℕ) → IsInPlace g later k e at →
      (s : State Store) (ts : List (Option Value)) → Agrees ops g None s ts
      → (v : Value) × (slice_get ts at ≡ Some (Some v)) × IsOf (kind_of k) v ×
      ((l : Value → State Store → Fate) → value_of ops w call e s l ≡ l v s)
  in_place later k e at (code.variable {x = x} {t = at2} {k = k2} {q = q} home sp) s ts ag =
      by (slice_get s.vars x) refl
    where
      by : (o : Option (Option Value)) → slice_get s.vars x ≡ o →
          (v : Value) × (slice_get ts at2 ≡ Some (Some v)) × IsOf (kind_of k2) v ×
          ((l : Value → State Store → Fate) → given ops w q (kind_of k2) (slice_get s.vars x) s l ≡ l v s)
      by (Some (Some v)) h = (
        v,
        ag.variable x (record { temp = at2; kind = k2 }) home tt (Some v) h,
        ag.typed x (record { temp = at2; kind = k2 }) home v h,
        λ l. ap (λ z. given ops w q (kind_of k2) z s l) h,
      )
      by (Some None) h = (
        zero_of (kind_of k2),
        ag.variable x (record { temp = at2; kind = k2 }) home tt None h,
        zero_is_of (kind_of k2),
        λ l. ap (λ z. given ops w q (kind_of k2) z s l) h ∙ ap (λ z. answer q z s l) (placed.unset (kind_of k2)),
      )
      by None h =
          absurd (none_some (get_or s.vars x None)
          (sym h ∙ slice_get-get_or s.vars x None
          (let lt = scene.home_counted x (record { temp = at2; kind = k2 }) home in let is = ag.count in
          omega arith)))
  in_place later k e at (code.object {n = n} {t = at2} spot) s ts ag = (
    _,
    ag.object n at2 spot,
    placed.whole_pointer s.mem (s.first + n) data_permissions ag.sound data_twelve_bits,
    λ l. refl,
  )
  in_place later k e at (code.converted {k = k2} {e = e2} {t = at2} {q = q} i) s ts ag =
      let h = in_place later k2 e2 at2 i s ts ag in (
        h.0,
        h.1,
        h.2,
        λ l. h.3 (λ v u. answer q
            (Rattle.cheri_c_sem.specs.Operations.convert_by ops u.mem (kind_of k2) (kind_of k2) v) u l)
            ∙ ap (λ z. answer q z s l) (converts_same ops placed s.mem (kind_of k2) h.0 h.2),
      )

  pub in_place_stays : (later : Exs) (from n : ℕ) (k : TacKind) (e : Ex) (at : ℕ) → IsInPlace g later k e at →
      Stays g later from n at
  in_place_stays later from n k e at (code.variable home sp) = stay.variable home sp
  in_place_stays later from n k e at (code.object spot) = stay.object spot
  in_place_stays later from n k e at (code.converted {k = k2} {e = e2} {t = at2} i) =
      in_place_stays later from n k2 e2 at2 i

  -- ---- operands

  pub operand_in_place : (later : Exs) (k : TacKind) (e : Ex) (at : ℕ) (m : Mark) → IsInPlace g later k e at →
      Operand_runs later k e at m m (λ rest. rest)
  operand_in_place later k e at m h = record {
    piece = nothing_own m;
    runs = λ s ts l rest room ag go.
        let i = in_place later k e at h s ts ag in
        i.3 l ∙ go i.0 s ts (record {
          done = record { agrees = ag; went = went_nowhere ops g scene (λ x. spares x e) m.temps s ts };
          value = i.1;
          typed = i.2;
          stays = in_place_stays later m.temps m.temps k e at h;
        });
  }

  pub operand_fresh : (later : Exs) (k : TacKind) (e : Ex) (m n : Mark) (c : Code) →
      Value_runs k e m.temps (more 1 m) n c → Operand_runs later k e m.temps m n c
  operand_fresh later k e m n c h = record {
    piece = record { temps = let le = h.piece.temps in omega arith; labels = h.piece.labels; own = h.piece.own };
    runs = λ s ts l rest room ag go.
        let low = room.low in
        h.runs s ts l rest (record { low = omega arith; high = room.high })
        (record { there = omega arith; free = free_own ops g scene m.temps low }) ag
        (λ v u us h2. go v u us (record {
          done = record {
            agrees = agrees_own ops g scene m.temps u us low h2.agrees;
            went = went_less ops g scene (λ x. spares x e) (λ x. spares x e) m.temps (m.temps + 1)
                (Some m.temps) None s u ts us (λ x q. q) (omega arith) (λ i lt z q. absurd (omega arith)) h2.went;
          };
          value = h2.value;
          typed = h2.typed;
          stays = stay.own (omega arith) (let le = h.piece.temps in omega arith);
        }));
  }

  pub pair : (j k : TacKind) (a b : Ex) (x y : ℕ) (l m n : Mark) (c d : Code) → Operand_runs (Cons b Nil) j a x l m c →
      Operand_runs Nil k b y m n d → Pair_runs j a x k b y l n (λ rest. c (d rest))
  pair j k a b x y l m n c d f h = record {
    piece = both_own l m n c d f.piece h.piece;
    runs = λ s ts next rest room ag go.
        let low = room.low in let high = room.high in let lm = f.piece.temps in let mn = h.piece.temps in
        f.runs s ts (λ v u. value_of ops w call b u (next v)) (d rest) (record { low = low; high = omega arith }) ag
        (λ v u us one. h.runs u us (next v) rest (record { low = omega arith; high = high }) one.done.agrees
        (λ z u2 us2 two. go v z u2 us2 (record {
          done = record {
            agrees = two.done.agrees;
            went = went_then ops g scene (λ i. spares i a) (λ i. spares i b)
                (λ i. spares i a && spares i b) l.temps m.temps None s u u2 ts us us2
                (λ i q. and_left (spares i a) (spares i b) q)
                (λ i q. and_right (spares i a) (spares i b) q) lm one.done.went two.done.went;
          };
          left = record {
            value = stays ops g scene (Cons b Nil) (λ i. spares i b) l.temps m.temps x None u u2 us us2 v low one.stays
                (λ i q. and_left (spares i b) true q)
                (λ i q k. tt) one.done.agrees two.done.agrees two.done.went one.value;
            typed = one.typed;
            below = let lt = stays_below ops g scene (Cons b Nil) l.temps m.temps x (omega arith) one.stays in
                omega arith;
          };
          right = record {
            value = two.value;
            typed = two.typed;
            below = stays_below ops g scene Nil m.temps n.temps y (omega arith) two.stays;
          };
        })));
  }

  -- ---- an operation behind its operands

  pub agrees_scratched : (n : ℕ) (u : State Store) (us vs : List (Option Value)) → g.fixed ≤ n →
      Scratched ops w t p objects r call g n us vs → Agrees ops g None u us → Agrees ops g None u vs
  agrees_scratched n u us vs low sc a = record {
    room = sc.room ∙ a.room;
    count = a.count;
    variable = λ x i e z o q. sc.same i.temp (let lt = scene.home_below x i e in omega arith) ∙ a.variable x i e z o q;
    typed = a.typed;
    object = λ i at e. sc.same at (let lt = scene.spot_below i at e in omega arith) ∙ a.object i at e;
    there = a.there;
    sound = a.sound;
    within = a.within;
    high = a.high;
  }

  -- a state that went a way has gone it where temps change that are not kept
  done_scratched : (f : ℕ → Bool) (m n : Mark) (s u : State Store) (ts us vs : List (Option Value)) →
      m.temps ≤ n.temps →
      g.fixed ≤ n.temps → Scratched ops w t p objects r call g n.temps us vs → Done ops g f m s ts u us →
      Done ops g f m s ts u vs
  done_scratched f m n s u ts us vs le low sc h = record {
    agrees = agrees_scratched n.temps u us vs low sc h.agrees;
    went = record {
      left = h.went.left;
      first = h.went.first;
      frame = h.went.frame;
      onward = h.went.onward;
      spared = h.went.spared;
      kept = λ j ge lt z. sc.same j (omega arith) ∙ h.went.kept j ge lt z;
    };
  }

  -- what an operation gives comes into the temp that was given
  pub operated : (k : TacKind) (f h : ℕ → Bool) (to extra : ℕ) (m n : Mark) (part : Then Store Value) (d : Code)
      (s u : State Store)
      (ts us : List (Option Value)) (l : Value → State Store → Fate) (rest : List TacInstr)
      → ((x : ℕ) → h x ≡ true → f x ≡ true) → m.temps ≤ n.temps → HasRoom g m (more extra n) → IsTarget g m to →
      Done ops g f m s ts u us → Operated ops w t p objects r call g k to n.temps part d u us
      → ((v : Value) (z : State Store) (zs : List (Option Value)) → Valued ops g k h to m s ts v z zs →
      l v z ≡ run rest z zs) → part u l ≡ run (d rest) u us
  operated k f h to extra m n part d s u ts us l rest hf le room target done o go =
      let low = room.low in
      o.means l
      ∙ go o.value u (slice_set o.temps to (Some o.value))
      (lands ops w t p objects r call g scene k f h to m (more extra n) s u ts o.temps o.value hf target room
      (omega arith) o.typed (done_scratched f m n s u ts us o.temps le (omega arith) o.scratched done))
      ∙ sym (o.runs rest)

  pub unary_value : (j k : TacKind) (e f : Ex) (x to extra : ℕ) (m n : Mark) (part : Value → Then Store Value)
      (c d : Code) → Operand_runs Nil j e x m n c → UnaryRuns ops w t p objects r call g j k to x n.temps extra part d
      → ((s : State Store) (l : Value → State Store → Fate) →
      value_of ops w call f s l ≡ value_of ops w call e s (λ v u. part v u l)) →
      ((i : ℕ) → spares i f ≡ true → spares i e ≡ true) → Value_runs k f to m (more extra n) (λ rest. c (d rest))
  unary_value j k e f x to extra m n part c d h o means sp = record {
    piece = then_own m n (more extra n) c d (omega arith) refl o.plain h.piece;
    runs = λ s ts l rest room target ag go.
        let low = room.low in let high = room.high in let le = h.piece.temps in
        means s l ∙ h.runs s ts (λ v u. part v u l) (d rest) (record { low = low; high = omega arith }) ag
        (λ v u us a. operated k (λ i. spares i e) (λ i. spares i f) to extra m n
        (part v) d s u ts us l rest sp le room target a.done
        (o.runs v u us (record {
          value = a.value;
          typed = a.typed;
          below = stays_below ops g scene Nil m.temps n.temps x (omega arith) a.stays;
        })
        (let is = a.done.agrees.room in omega arith) a.done.agrees.sound) go);
  }

  pub binary_value : (i j k : TacKind) (a b f : Ex) (x y to extra : ℕ) (m n : Mark)
      (part : Value → Value → Then Store Value) (c d : Code) → Pair_runs i a x j b y m n c →
      BinaryRuns ops w t p objects r call g i j k to x y n.temps extra part d
      → ((s : State Store) (l : Value → State Store → Fate) →
      value_of ops w call f s l ≡ value_of ops w call a s
      (λ v u. value_of ops w call b u (λ z q. part v z q l))) →
      ((o : ℕ) → spares o f ≡ true → (spares o a && spares o b) ≡ true)
      → Value_runs k f to m (more extra n) (λ rest. c (d rest))
  binary_value i j k a b f x y to extra m n part c d h o means sp = record {
    piece = then_own m n (more extra n) c d (omega arith) refl o.plain h.piece;
    runs = λ s ts l rest room target ag go.
        let low = room.low in let high = room.high in let le = h.piece.temps in
        means s l ∙ h.runs s ts (λ v z u. part v z u l) (d rest) (record { low = low; high = omega arith }) ag
        (λ v z u us q. operated k (λ o. spares o a && spares o b) (λ o. spares o f) to extra m n
        (part v z) d s u ts us l rest sp le room target q.done
        (o.runs v z u us q.left q.right (let is = q.done.agrees.room in omega arith) q.done.agrees.sound) go);
  }

  -- ---- an operand in a temp that was given

  abbrev Operand_in_runs : (k : TacKind) (e : Ex) (to at : ℕ) (m n : Mark) (c : Code) → Type 0
  Operand_in_runs = OperandInRuns ops w t p objects r call g

  pub operand_in_place_of : (k : TacKind) (e : Ex) (to at : ℕ) (m : Mark) → IsInPlace g Nil k e at →
      Operand_in_runs k e to at m m (λ rest. rest)
  operand_in_place_of k e to at m h = record {
    piece = nothing_own m;
    runs = λ s ts l rest room target ag go.
        let i = in_place Nil k e at h s ts ag in
        i.3 l ∙ go i.0 s ts (record {
          agrees = agrees_any ops g scene (Some to) s ts ag;
          went = went_less ops g scene (λ x. spares x e) (λ x. spares x e) m.temps m.temps None (Some to) s s ts ts
              (λ x z. z) (omega arith) (λ j lt z. tt) (went_nowhere ops g scene (λ x. spares x e) m.temps s ts);
          holds = record {
            value = i.1;
            typed = i.2;
            below = stays_below ops g scene Nil m.temps m.temps at room.low
                (in_place_stays Nil m.temps m.temps k e at h);
          };
        });
  }

  pub operand_there : (k : TacKind) (e : Ex) (to : ℕ) (m n : Mark) (c : Code) → Value_runs k e to m n c →
      Operand_in_runs k e to to m n c
  operand_there k e to m n c h = record {
    piece = h.piece;
    runs = λ s ts l rest room target ag go. h.runs s ts l rest room target ag
        (λ v u us a. go v u us (record {
          agrees = a.agrees;
          went = a.went;
          holds = record {
            value = a.value;
            typed = a.typed;
            below = let lt = target.there in
                let le = h.piece.temps in omega arith;
          };
        }));
  }

  pub unary_in_value : (j k : TacKind) (e f : Ex) (x to extra : ℕ) (m n : Mark) (part : Value → Then Store Value)
      (c d : Code) → Operand_in_runs j e to x m n c → UnaryRuns ops w t p objects r call g j k to x n.temps extra part d
      → ((s : State Store) (l : Value → State Store → Fate) →
      value_of ops w call f s l ≡ value_of ops w call e s (λ v u. part v u l)) →
      ((i : ℕ) → spares i f ≡ true → spares i e ≡ true) → Value_runs k f to m (more extra n) (λ rest. c (d rest))
  unary_in_value j k e f x to extra m n part c d h o means sp = record {
    piece = then_own m n (more extra n) c d (omega arith) refl o.plain h.piece;
    runs = λ s ts l rest room target ag go.
        let low = room.low in let high = room.high in let le = h.piece.temps in
        means s l ∙ h.runs s ts (λ v u. part v u l) (d rest) (record { low = low; high = omega arith }) target ag
        (λ v u us a. let y = o.runs v u us a.holds (let is = a.agrees.room in omega arith) a.agrees.sound in
        y.means l ∙ go y.value u (slice_set y.temps to (Some y.value)) (record {
          agrees = agrees_set ops g scene (Some to) (Some to) u y.temps to (Some y.value) target.free
              (λ i z q z2. (z2, z2)) (record {
                room = y.scratched.room ∙ a.agrees.room;
                count = a.agrees.count;
                variable = λ i z q z2 b q2. y.scratched.same z.temp (let lt = scene.home_below i z q in omega arith)
                    ∙ a.agrees.variable i z q z2 b q2;
                typed = a.agrees.typed;
                object = λ i at q. y.scratched.same at (let lt = scene.spot_below i at q in omega arith)
                    ∙ a.agrees.object i at q;
                there = a.agrees.there;
                sound = a.agrees.sound;
                within = a.agrees.within;
                high = a.agrees.high;
              });
          went = went_set ops g scene (λ i. spares i e) (λ i. spares i f) m.temps m.temps (Some to)
              (Some to) s u ts y.temps to (Some y.value) sp (omega arith) (λ i lt z. (z, z)) (record {
                left = a.went.left;
                first = a.went.first;
                frame = a.went.frame;
                onward = a.went.onward;
                spared = a.went.spared;
                kept = λ i ge lt z. y.scratched.same i (omega arith) ∙ a.went.kept i ge lt z;
              });
          value = get_set_same y.temps to (Some y.value)
              (let q = y.scratched.room in let is = a.agrees.room in let lt = target.there in omega arith);
          typed = y.typed;
        }) ∙ sym (y.runs rest));
  }
