-- Statements that enter blocks, jump, initialise or switch do what the machine does.
use Rattle.std.proofs.Common.{◌≡◌, ℕ, ◌+◌, ◌<◌, Bool, true, false, List, ◌∷◌, length, drop, get_or}
use Rattle.std.proofs.Common.{Option, Some, None, Result, Ok, Err, refl, sym, ap, ◌∙◌}
use Rattle.std.specs.Prelude.{map, not, ◌&&◌, slice_get, slice_set, option_map, if◌then◌else◌}
use Rattle.std.proofs.lemmas.List.{at_drop_more}
use Rattle.ck_base.specs.Runs.{Act, Goes}
use Rattle.ck_base.specs.declared.positions.Pos.{Pos}
use Rattle.c_tree.specs.Layout.{bare}
use Rattle.c_tree.specs.declared.typed.StmtKind.{StmtKind}
use Rattle.c_tree.specs.declared.typed.StmtKind.TheVariants as stmts
use Rattle.c_tree.specs.declared.typed.SwitchLabel.{SwitchLabel}
use Rattle.c_tree.specs.declared.typed.Typed.{Typed}
use Rattle.obj_mem.specs.declared.ending.Ending.{Ending}
use Rattle.obj_mem.specs.declared.value.Value as public
use Rattle.obj_mem.specs.Values.{Value, value_of}
use Rattle.cheri_c_sem.specs.Expressions.{expr_tree, type_of}
use Rattle.cheri_c_sem.specs.Kinds.{Kind}
use Rattle.cheri_c_sem.specs.Meaning.{Place, first_of}
use Rattle.cheri_c_sem.specs.Modes.{Store}
use Rattle.cheri_c_sem.specs.Operations.{Operations}
use Rattle.cheri_c_sem.specs.Programs.{label_of, stmt_tree}
use Rattle.cheri_c_sem.specs.Statements.{default_of}
use Rattle.cheri_c_sem.specs.Tree.{Declared, Ex, Label, St, Sts, End, Seq, Block, For, Switch, Give, Fill, Init}
use Rattle.cheri_c_sem.specs.Types.{is_record, is_simple}
use Rattle.mean_steps.specs.Machine.{Loop, Before, Moment, behind, choose_label, done_in, execs_behind, execute}
use Rattle.mean_steps.specs.Machine.{first_place, initialize, less_place, less_value, three, to_label, two}
use Rattle.mean_steps.specs.Machine as machine
use Rattle.mean_steps.specs.Parts.{Now, Came, On, Over, answer, choose, copy, enter, find_label, give, next_of}
use Rattle.mean_steps.specs.Parts.{part_of_local, store}
use Rattle.mean_run.specs.declared.state.State.{State}
use Rattle.mean_work.specs.declared.work.Place as code_place
use Rattle.mean_work.specs.declared.work.Stop.{Stop}
use Rattle.mean_work.specs.declared.work.Stop.TheVariants as stop
use Rattle.mean_work.specs.declared.work.Work.TheVariants as work
use Rattle.mean_run.specs.Begun.{assigned}
use Rattle.mean_run.specs.Done.{DoneBy, Executes, Here, InitializedBy, SwitchedBy}
use Rattle.mean_run.specs.Labels.{IsAt, at_label, labels_of}
use Rattle.mean_run.specs.Parts.{Becomes, Did, DidAll, Does, Gives, LeavesIt, Unless_wanting}
use Rattle.mean_run.specs.Sizes.{IsSizedStatement}
use Rattle.mean_run.specs.Views.{funs_of, item_of, moment_of, now_of, vars_at}
use Rattle.mean_work.specs.Places.{place_of}
use Rattle.mean_run.proofs.Tops.{map_behind}

execs_zero : (ss : Sts) → execs_behind ss 0 ≡ ss
execs_zero End = refl
execs_zero (Seq a ss) = refl

module _ (ops : Operations Store) (p : Typed) (f k : ℕ) (pos : Pos) (held left : Store) (old new : State) where
  abbrev here : ℕ → St
  here = stmt_tree p (vars_at p f)

  abbrev tree : ℕ → Ex
  tree = expr_tree p (vars_at p f)

  abbrev m : Moment Store
  m = moment_of p old held

  -- a block was entered, and its statements come
  pub in_block : (r : Result (Unit {0}) Stop) (s : State) (ds : List Declared) (ss : Sts) → here k ≡ Block ds ss →
      DidAll (enter ops ds) p old s held left →
      Unless_wanting r (new ≡ record s { work = work.Rest f k 0 ∷ work.Leave f k ∷ s.work }) →
      Executes ops p f k pos held left old new r
  in_block (Err stop.NoMemory) s ds ss node d h = tt
  in_block (Err (stop.Ended e)) s ds ss node d h = absurd h
  in_block (Ok u) s ds ss node (done, frame) h =
      let next : Moment Store → Act (Moment Store) Ending = λ t. Goes (two (machine.Rest ss) (machine.Leave ds) t) in
      let last : next (moment_of p s left) ≡ Goes (moment_of p new left) = rw (h, node, execs_zero ss) refl in
      ap (λ a. execute ops (funs_of p) a m) node
      ∙ (ap (done_in m (λ _ t. next t)) done ∙ (ap next (sym frame) ∙ last))

  pub in_for : (r : Result (Unit {0}) Stop) (s : State) (ds : List Declared) (first : Sts)
      (t : Option (Pos × Kind × Ex)) (step : Option Ex) (b : St) → here k ≡ For ds first t step b →
      DidAll (enter ops ds) p old s held left →
      Unless_wanting r (new ≡ record s
      { work = work.Rest f k 0 ∷ work.Test f k ∷ work.Leave f k ∷ s.work }) →
      Executes ops p f k pos held left old new r
  in_for (Err stop.NoMemory) s ds first t step b node d h = tt
  in_for (Err (stop.Ended e)) s ds first t step b node d h = absurd h
  in_for (Ok u) s ds first t step b node (done, frame) h =
      let next : Moment Store → Act (Moment Store) Ending =
      λ n. Goes (three (machine.Rest first) (machine.Test (Before t step b)) (machine.Leave ds) n) in
      let last : next (moment_of p s left) ≡ Goes (moment_of p new left) = rw (h, node, execs_zero first) refl in
      ap (λ a. execute ops (funs_of p) a m) node
      ∙ (ap (done_in m (λ _ t. next t)) done ∙ (ap next (sym frame) ∙ last))

  -- a statement that only asks for something
  asked : (r : Result (Unit {0}) Stop) (s : State) (a : St) →
      execute ops (funs_of p) a m ≡ Goes (moment_of p s held) → Unless_wanting r ((new ≡ s) × (left ≡ held)) →
      Does (execute ops (funs_of p) a m) (moment_of p new left) r
  asked (Ok u) s a e (is, same) = e ∙ rw (is, same) refl
  asked (Err stop.NoMemory) s a e q = tt
  asked (Err (stop.Ended x)) s a e q = absurd q

  first_of_init : (c d : Bool) (x j o bytes unit e : ℕ) (q : Pos) (t : Kind) →
      execute ops (funs_of p) (if c then Give x (tree e) else if d then Fill q j o bytes unit (tree e)
      else Init q j o t (tree e)) m
      ≡ Goes (two (item_of p (assigned f e (not c && d))) (machine.Initialize (if c then Give x (tree e)
      else if d then Fill q j o bytes unit (tree e) else Init q j o t (tree e))) m)
  first_of_init true d x j o bytes unit e q t = refl
  first_of_init false true x j o bytes unit e q t = refl
  first_of_init false false x j o bytes unit e q t = refl

  pub executes_by : (r : Result (Unit {0}) Stop) (kind : StmtKind) → Here ops p f k pos kind →
      DoneBy ops p f k pos held left old new r kind → Executes ops p f k pos held left old new r
  executes_by r (stmts.Block xs ks) node d = d node
  executes_by r (stmts.For xs first test step a) node d = d node
  executes_by r stmts.Break node d = d node
  executes_by r stmts.Continue node d = d node
  executes_by r (stmts.Return e) node d = d node
  executes_by r (stmts.Expr e) node d =
      asked r (record old { work = work.Value f e ∷ work.Drop ∷ old.work }) (here k) (rw node refl) d
  executes_by r (stmts.Init x offset e) node d =
      let c = is_simple (slice_get (vars_at p f) x) in
      let b = is_record (bare p.types (type_of (slice_get p.exprs e))) in
      asked r (record old { work = assigned f e (not c && b) ∷ work.Initialize f k ∷ old.work }) (here k)
      (rw node (first_of_init c b x _ offset _ _ e pos _)) d
  executes_by r (stmts.If c a b) node d =
      asked r (record old { work = work.Value f c ∷ work.Branch f k ∷ old.work }) (here k) (rw node refl) d
  executes_by r (stmts.While c a) node d =
      asked r (record old { work = work.Test f k ∷ old.work }) (here k) (rw node refl) d
  executes_by r (stmts.Do a c) node d =
      asked r (record old { work = work.Statement f a ∷ work.Again f k ∷ old.work }) (here k) (rw node refl) d
  executes_by r (stmts.Switch on xs labels ks) node d =
      asked r (record old { work = work.Value f on ∷ work.Switch f k ∷ old.work }) (here k) (rw node refl) d
  executes_by r stmts.Empty node d = asked r old (here k) (rw node refl) d

-- ---- `switch`

module _ (ops : Operations Store) (pos : Pos) (k : Kind) (v : Value) (labels : List SwitchLabel) (i : ℕ)
    (d : SwitchLabel) (lt : i < length labels) (o : Option ℕ) (n : Now Store) where
  abbrev looks : ℕ → Came Store (Option ℕ)
  looks i = find_label ops pos k v (labels_of (drop i labels)) o n

  abbrev l : SwitchLabel
  l = get_or labels i d

  at_here : looks i ≡ find_label ops pos k v (label_of l.value l.before ∷ labels_of (drop (i + 1) labels)) o n
  at_here = at_drop_more (λ ls. find_label ops pos k v (labels_of ls) o n) labels i d lt

  no_label_by : (c : Option ℕ) → IsAt ops pos k v n.mem c (Ok false) →
      find_label ops pos k v (label_of c l.before ∷ labels_of (drop (i + 1) labels)) o n ≡ looks (i + 1)
  no_label_by None h = refl
  no_label_by (Some c) h =
      ap (λ r. next_of (answer pos r n)
      (λ b. choose b (give (Some l.before)) (find_label ops pos k v (labels_of (drop (i + 1) labels)) o))) h

  pub no_label : IsAt ops pos k v n.mem l.value (Ok false) → looks i ≡ looks (i + 1)
  no_label h = at_here ∙ no_label_by l.value h

  label_by : (c : Option ℕ) → IsAt ops pos k v n.mem c (Ok true) →
      find_label ops pos k v (label_of c l.before ∷ labels_of (drop (i + 1) labels)) o n ≡ On (Some l.before) n
  label_by None h = absurd (let e : true ≡ false = h in cc)
  label_by (Some c) h =
      ap (λ r. next_of (answer pos r n)
      (λ b. choose b (give (Some l.before)) (find_label ops pos k v (labels_of (drop (i + 1) labels)) o))) h

  pub label_found : IsAt ops pos k v n.mem l.value (Ok true) → looks i ≡ On (Some l.before) n
  label_found h = at_here ∙ label_by l.value h

  over_by : (c : Option ℕ) (s : Stop) → IsAt ops pos k v n.mem c (Err s) →
      Gives (find_label ops pos k v (label_of c l.before ∷ labels_of (drop (i + 1) labels)) o n)
      (λ (o : Option ℕ). o) n (Err s)
  over_by None s h = absurd h
  over_by (Some c) stop.NoMemory h = absurd h
  over_by (Some c) (stop.Ended e) (f, h, is) =
      ap (λ r. next_of (answer pos r n)
      (λ b. choose b (give (Some l.before)) (find_label ops pos k v (labels_of (drop (i + 1) labels)) o))) h
      ∙ ap Over (sym is)

  pub label_over : (whole : Came Store (Option ℕ)) (s : Stop) → whole ≡ looks i →
      IsAt ops pos k v n.mem l.value (Err s) → Gives whole (λ (o : Option ℕ). o) n (Err s)
  label_over whole stop.NoMemory e h = tt
  label_over whole (stop.Ended x) e h = e ∙ (at_here ∙ over_by l.value (stop.Ended x) h)

module _ (labels : List SwitchLabel) (i : ℕ) (d : SwitchLabel) (lt : i < length labels) where
  default_by : (c : Option ℕ) (b : ℕ) (ls : List Label) → c ≡ None → default_of (label_of c b ∷ ls) ≡ Some b
  default_by None b ls e = refl
  default_by (Some c) b ls e = absurd (let i : ◌≡◌ {A = Option ℕ} (Some c) None = e in cc)

  not_default_by : (c : Option ℕ) (b : ℕ) (ls : List Label) → (c ≡ None → ⊥) →
      default_of (label_of c b ∷ ls) ≡ default_of ls
  not_default_by None b ls e = absurd (e refl)
  not_default_by (Some c) b ls e = refl

  pub default_here : (get_or labels i d).value ≡ None →
      default_of (labels_of (drop i labels)) ≡ Some (get_or labels i d).before
  default_here e = at_drop_more (λ ls. default_of (labels_of ls)) labels i d lt ∙ default_by _ _ _ e

  pub default_later : ((get_or labels i d).value ≡ None → ⊥) →
      default_of (labels_of (drop i labels)) ≡ default_of (labels_of (drop (i + 1) labels))
  default_later e = at_drop_more (λ ls. default_of (labels_of ls)) labels i d lt ∙ not_default_by _ _ _ e

module _ (ops : Operations Store) (p : Typed) (f k : ℕ) (held left : Store) (old s t new : State) (pos : Pos)
    (j : Kind) (e : Ex) (ds : List Declared) (ls : List Label) (ss : Sts)
    (node : stmt_tree p (vars_at p f) k ≡ Switch pos j e ds ls ss)
    (taken : s ≡ record old { values = behind old.values }) (entered : DidAll (enter ops ds) p s t held left)
    (v : public.Value) (top : value_of v ≡ first_of (map value_of old.values)) where
  abbrev chooses : Act (Moment Store) Ending
  chooses = choose_label ops (funs_of p) (stmt_tree p (vars_at p f) k) (moment_of p old held)

  abbrev next : Came Store (Option ℕ) → Act (Moment Store) Ending
  next c = done_in (less_value (moment_of p old held)) (λ o t. Goes (to_label ops (funs_of p) ss ds o t)) c

  abbrev finds : Came Store (Option ℕ)
  finds = find_label ops pos j (value_of v) ls (default_of ls) (now_of t left)

  less : moment_of p s held ≡ less_value (moment_of p old held)
  less = rw (taken, map_behind value_of old.values) refl

  now_same : now_of s held ≡ now_of old held
  now_same = ap (λ (m : Moment Store). m.now) less

  looked : chooses ≡ next finds
  looked =
      ap (λ a. choose_label ops (funs_of p) a (moment_of p old held)) node
      ∙ (ap (λ n. next (next_of (enter ops ds n)
      (λ _. find_label ops pos j (first_of (map value_of old.values)) ls (default_of ls)))) (sym now_same)
      ∙ (ap (λ c. next (next_of c (λ _. find_label ops pos j (first_of (map value_of old.values)) ls (default_of ls))))
      entered.0 ∙ ap (λ v. next (find_label ops pos j v ls (default_of ls) (now_of t left))) (sym top)))

  pub switch_over : (x : Stop) (m : Moment Store) → Gives finds (λ (o : Option ℕ). o) (now_of t left) (Err x) →
      Does chooses m (Err x)
  switch_over stop.NoMemory m h = tt
  switch_over (stop.Ended y) m h = looked ∙ ap next h

  abbrev lands : Option ℕ → Moment Store → Act (Moment Store) Ending
  lands o m = Goes (to_label ops (funs_of p) ss ds o m)

  landed : (o : Option ℕ) → new ≡ record t { work = at_label f k o t.work } →
      lands o (moment_of p t left) ≡ Goes (moment_of p new left)
  landed None h = rw (h, node) refl
  landed (Some n) h = rw (h, node) refl

  pub switch_lands : (o : Option ℕ) (r : Result (Unit {0}) Stop) →
      Gives finds (λ (o : Option ℕ). o) (now_of t left) (Ok o) →
      Unless_wanting r (new ≡ record t { work = at_label f k o t.work }) → Does chooses (moment_of p new left) r
  switch_lands o (Err stop.NoMemory) h q = tt
  switch_lands o (Err (stop.Ended y)) h q = absurd q
  switch_lands o (Ok u) h q =
      looked ∙ (ap next h ∙ (ap (λ (m : Moment Store). lands o (record m { now = now_of t left })) (sym less)
      ∙ (ap (lands o) (sym entered.1) ∙ landed o q)))

-- ---- initialisation

module _ (ops : Operations Store) (p : Typed) (held left : Store) (old s : State) (pos : Pos) (n offset : ℕ) (e : Ex)
  where
    abbrev part : Came Store Place
    part = part_of_local ops pos n offset (now_of s held)

    module _ (bytes unit : ℕ) (from : code_place.Place) (taken : s ≡ record old { places = behind old.places })
        (at : place_of from ≡ first_place (map place_of old.places)) where
      abbrev fills : Act (Moment Store) Ending
      fills = initialize ops (funs_of p) (Fill pos n offset bytes unit e) (moment_of p old held)

      fill_is : done_in (moment_of p s held) (λ (_ : Unit {0}) t. Goes t)
          (next_of part (λ to. copy ops pos bytes unit (place_of from) to)) ≡ fills
      fill_is = rw (taken, at, map_behind place_of old.places) refl

      pub part_over : (x : Stop) (m : Moment Store) → Gives part place_of (now_of s held) (Err x) → Does fills m (Err x)
      part_over stop.NoMemory m h = tt
      part_over (stop.Ended y) m h =
          sym fill_is ∙ ap (λ c. done_in (moment_of p s held) (λ (_ : Unit {0}) t. Goes t)
          (next_of c (λ to. copy ops pos bytes unit (place_of from) to))) h

      pub part_filled : (to : code_place.Place) (r : Result (Unit {0}) Stop) →
          Gives part place_of (now_of s held) (Ok to) →
          LeavesIt (copy ops pos bytes unit (place_of from) (place_of to) (now_of s held)) (now_of s left) r →
          Does fills (moment_of p s left) r
      part_filled to (Ok u) h d =
          sym fill_is ∙ (ap (λ c. done_in (moment_of p s held) (λ (_ : Unit {0}) t. Goes t)
          (next_of c (λ to. copy ops pos bytes unit (place_of from) to))) h
          ∙ ap (done_in (moment_of p s held) (λ (_ : Unit {0}) t. Goes t)) d)
      part_filled to (Err stop.NoMemory) h d = tt
      part_filled to (Err (stop.Ended y)) h d =
          sym fill_is ∙ (ap (λ c. done_in (moment_of p s held) (λ (_ : Unit {0}) t. Goes t)
          (next_of c (λ to. copy ops pos bytes unit (place_of from) to))) h
          ∙ ap (done_in (moment_of p s held) (λ (_ : Unit {0}) t. Goes t)) d)

    module _ (j k : Kind) (v : public.Value) (is_kind : j ≡ k) (taken : s ≡ record old { values = behind old.values })
        (top : value_of v ≡ first_of (map value_of old.values)) where
      abbrev sets : Act (Moment Store) Ending
      sets = initialize ops (funs_of p) (Init pos n offset k e) (moment_of p old held)

      set_is : done_in (moment_of p s held) (λ (_ : Unit {0}) t. Goes t)
          (next_of part (λ to. store ops j to (value_of v))) ≡ sets
      set_is = rw (taken, top, is_kind, map_behind value_of old.values) refl

      pub set_over : (x : Stop) (m : Moment Store) → Gives part place_of (now_of s held) (Err x) → Does sets m (Err x)
      set_over stop.NoMemory m h = tt
      set_over (stop.Ended y) m h =
          sym set_is ∙ ap (λ c. done_in (moment_of p s held) (λ (_ : Unit {0}) t. Goes t)
          (next_of c (λ to. store ops j to (value_of v)))) h

      pub part_set : (to : code_place.Place) (new : State) (r : Result (Unit {0}) Stop) →
          Gives part place_of (now_of s held) (Ok to) →
          Did (store ops j (place_of to) (value_of v)) (λ (u : Unit {0}). u) p s new held left r →
          Does sets (moment_of p new left) r
      part_set to new (Ok u) h (d, frame) =
          sym set_is ∙ (ap (λ c. done_in (moment_of p s held) (λ (_ : Unit {0}) t. Goes t)
          (next_of c (λ to. store ops j to (value_of v)))) h
          ∙ (ap (done_in (moment_of p s held) (λ (_ : Unit {0}) t. Goes t)) d ∙ ap Goes (sym frame)))
      part_set to new (Err stop.NoMemory) h d = tt
      part_set to new (Err (stop.Ended y)) h d =
          sym set_is ∙ (ap (λ c. done_in (moment_of p s held) (λ (_ : Unit {0}) t. Goes t)
          (next_of c (λ to. store ops j to (value_of v)))) h
          ∙ ap (done_in (moment_of p s held) (λ (_ : Unit {0}) t. Goes t)) d)

module _ (ops : Operations Store) (p : Typed) (f k : ℕ) (pos : Pos) (held left : Store) (old new : State) where
  abbrev m' : Moment Store
  m' = moment_of p old held

  idle : (r : Result (Unit {0}) Stop) (a : St) → initialize ops (funs_of p) a m' ≡ Goes m' →
      Unless_wanting r ((new ≡ old) × (left ≡ held)) →
      Does (initialize ops (funs_of p) a m') (moment_of p new left) r
  idle (Ok u) a e (is, same) = e ∙ rw (is, same) refl
  idle (Err stop.NoMemory) a e q = tt
  idle (Err (stop.Ended x)) a e q = absurd q

  pub initializes_by : (r : Result (Unit {0}) Stop) (kind : StmtKind) → Here ops p f k pos kind →
      IsSizedStatement p kind → InitializedBy ops p f pos held left old new r kind →
      Does (initialize ops (funs_of p) (stmt_tree p (vars_at p f) k) m') (moment_of p new left) r
  initializes_by r (stmts.Init x offset e) node sized d = rw node (d sized (expr_tree p (vars_at p f) e))
  initializes_by r (stmts.Block xs ks) node sized d = idle r _ (rw node refl) d
  initializes_by r (stmts.For xs first test step a) node sized d = idle r _ (rw node refl) d
  initializes_by r stmts.Break node sized d = idle r _ (rw node refl) d
  initializes_by r stmts.Continue node sized d = idle r _ (rw node refl) d
  initializes_by r (stmts.Return None) node sized d = idle r _ (rw node refl) d
  initializes_by r (stmts.Return (Some e)) node sized d = idle r _ (rw node refl) d
  initializes_by r (stmts.Expr e) node sized d = idle r _ (rw node refl) d
  initializes_by r (stmts.If c a b) node sized d = idle r _ (rw node refl) d
  initializes_by r (stmts.While c a) node sized d = idle r _ (rw node refl) d
  initializes_by r (stmts.Do a c) node sized d = idle r _ (rw node refl) d
  initializes_by r (stmts.Switch on xs labels ks) node sized d = idle r _ (rw node refl) d
  initializes_by r stmts.Empty node sized d = idle r _ (rw node refl) d

  pub lost : (r : Result (Unit {0}) Stop) (a : St) → choose_label ops (funs_of p) a m' ≡ Goes (less_value m') →
      Unless_wanting r ((new ≡ record old { values = behind old.values }) × (left ≡ held)) →
      Does (choose_label ops (funs_of p) a m') (moment_of p new left) r
  lost (Ok u) a e (is, same) = e ∙ rw (is, same, map_behind value_of old.values) refl
  lost (Err stop.NoMemory) a e q = tt
  lost (Err (stop.Ended x)) a e q = absurd q

  no_switch : (c d : Bool) (x j o bytes unit : ℕ) (q : Pos) (t : Kind) (v : Ex) →
      choose_label ops (funs_of p) (if c then Give x v else if d then Fill q j o bytes unit v else Init q j o t v) m'
      ≡ Goes (less_value m')
  no_switch true d x j o bytes unit q t v = refl
  no_switch false true x j o bytes unit q t v = refl
  no_switch false false x j o bytes unit q t v = refl

  pub switches_by : (r : Result (Unit {0}) Stop) (kind : StmtKind) → Here ops p f k pos kind →
      SwitchedBy ops p f k pos held left old new r kind →
      Does (choose_label ops (funs_of p) (stmt_tree p (vars_at p f) k) m') (moment_of p new left) r
  switches_by r (stmts.Switch on xs labels ks) node d = d node
  switches_by r (stmts.Init x offset e) node d =
      lost r (stmt_tree p (vars_at p f) k) (rw node (no_switch (is_simple (slice_get (vars_at p f) x))
      (is_record (bare p.types (type_of (slice_get p.exprs e)))) x _ offset _ _ pos _ (expr_tree p (vars_at p f) e))) d
  switches_by r (stmts.Block xs ks) node d = lost r (stmt_tree p (vars_at p f) k) (rw node refl) d
  switches_by r (stmts.For xs first test step a) node d = lost r (stmt_tree p (vars_at p f) k) (rw node refl) d
  switches_by r stmts.Break node d = lost r (stmt_tree p (vars_at p f) k) (rw node refl) d
  switches_by r stmts.Continue node d = lost r (stmt_tree p (vars_at p f) k) (rw node refl) d
  switches_by r (stmts.Return e) node d = lost r (stmt_tree p (vars_at p f) k) (rw node refl) d
  switches_by r (stmts.Expr e) node d = lost r (stmt_tree p (vars_at p f) k) (rw node refl) d
  switches_by r (stmts.If c a b) node d = lost r (stmt_tree p (vars_at p f) k) (rw node refl) d
  switches_by r (stmts.While c a) node d = lost r (stmt_tree p (vars_at p f) k) (rw node refl) d
  switches_by r (stmts.Do a c) node d = lost r (stmt_tree p (vars_at p f) k) (rw node refl) d
  switches_by r stmts.Empty node d = lost r (stmt_tree p (vars_at p f) k) (rw node refl) d

pub given_variable : (ops : Operations Store) (p : Typed) (held : Store) (old s t : State) (x : ℕ) (v : public.Value)
    (e : Ex) → s ≡ record old { values = behind old.values } → value_of v ≡ first_of (map value_of old.values) →
    Becomes s t (λ p m. record m {
      now = record m.now
          { vars = slice_set m.now.vars x (option_map value_of (Some v)) };
    }) →
    initialize ops (funs_of p) (Give x e) (moment_of p old held) ≡ Goes (moment_of p t held)
given_variable ops p held old s t x v e s_is v_is b =
    ap Goes (sym (b p held ∙ rw (s_is, v_is, map_behind value_of old.values) refl))

pub same_finds : (o ops : Operations Store) (j k : Kind) (ls ms : List SwitchLabel) (pos : Pos) (v : Value)
    (n : Now Store) → o ≡ ops → j ≡ k → ls ≡ ms →
    find_label o pos j v (labels_of ls) (default_of (labels_of ls)) n
    ≡ find_label ops pos k v (labels_of ms) (default_of (labels_of ms)) n
same_finds o ops j k ls ms pos v n a b c =
    ap (λ (o : Operations Store). find_label o pos j v (labels_of ls) (default_of (labels_of ls)) n) a
    ∙ (ap (λ j. find_label ops pos j v (labels_of ls) (default_of (labels_of ls)) n) b
    ∙ ap (λ ls. find_label ops pos k v (labels_of ls) (default_of (labels_of ls)) n) c)

pub not_true : (b : Bool) → not b ≡ true → b ≡ false
not_true true h = absurd (let e : false ≡ true = h in cc)
not_true false h = refl

pub not_false : (b : Bool) → not b ≡ false → b ≡ true
not_false true h = refl
not_false false h = absurd (let e : true ≡ false = h in cc)

pub both_same : {A : Type 0} (X : Type 0) (x : A) (r : Result (Unit {0}) Stop) → Unless_wanting r X →
    Unless_wanting r (X × (x ≡ x))
both_same X x (Ok u) h = (h, refl)
both_same X x (Err stop.NoMemory) h = tt
both_same X x (Err (stop.Ended e)) h = absurd h
