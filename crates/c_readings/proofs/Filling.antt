-- Structs and unions get their members, where they are of the kind that is said.
use Rattle.std.proofs.Common.{◌≡◌, ℕ, ◌<◌, List, [], Err, refl, sym, ap, subst, ◌∙◌}
use Rattle.ck_base.specs.declared.positions.Pos.{Pos}
use Rattle.ck_base.specs.declared.refusal.Refusal.{Refusal}
use Rattle.ck_base.specs.declared.refusal.Refusal.TheVariants.{Code, NoMemory}
use Rattle.c_tree.specs.declared.syntax.RecordKind.{RecordKind}
use Rattle.c_tree.specs.Types.{Tagged}
use Rattle.c_tree.specs.Scopes.{Part, State, give, continued, ◌>>◌}
use Rattle.c_tree.specs.Readings.{Reading}
use Rattle.c_tree.specs.Declarators.{begin_tag, complete_tag, all_members}
use Rattle.c_types.specs.Naming.{IsTagOf}
use Rattle.c_expressions.specs.Nodes.{type_count}
use Rattle.c_elaborator.specs.declared.work.Work.{Work}
use Rattle.c_elaborator.specs.Work.{Shows}
use Rattle.c_elaborator.specs.Answers.{quietly, Given, Done, Answers, TypeThere, IsType, NothingThere, IsNothing}
use Rattle.c_elaborator.specs.Shown.{DoneFor, AnswersFor}
use Rattle.c_elaborator.proofs.Sequencing.{quiet_law, also_then, still_then, quiet_then}
use Rattle.c_readings.proofs.Tagged.{NamesTag}
use Rattle.c_readings.specs.Specifying.{filled}

-- ---- members, from the braces on

module _ (u w z : Work) (k : RecordKind) (n : ℕ) (rs : List Reading) (at keyword : Pos) where
  pub filled_done : (r : ℕ) (T : Type 0) (I : State → List Part → Type 0) (ys : List Part) →
      Done quietly u w (begin_tag n at >> all_members rs []) T I →
      DoneFor quietly w z (IsTagOf k n) (λ i. complete_tag k i ys keyword) (Unit {0}) (λ s x. Unit {0}) →
      ((s : State) (ms : List Part) → Shows w s → I s ms →
      DoneFor quietly w z (IsTagOf k n) (λ i. complete_tag k i ms keyword) (Unit {0}) (λ s x. Unit {0})) →
      r < type_count z.nodes → NamesTag z n r →
      DoneFor quietly u z (IsTagOf k n) (λ i. filled k i rs at keyword) (TypeThere z r) (IsType z r)
  filled_done r T I ys a some all l names = record {
    whole = some.whole;
    grows = quiet_then u w z a.grows some.grows;
    there = l;
    gives = λ s h i e.
        let f = a.gives s h in
        let kind = f.stays.kinds n k e.1 in
        let g = (all f.state f.value f.shows f.fits).gives f.state f.shows n (refl, kind) in
        let m : Given quietly z s (filled k n rs at keyword s) (IsType z r) = record {
          value = Tagged n;
          state = g.state;
          is = ap (λ o. continued o (λ ms. complete_tag k n ms keyword >> give (Tagged n))) f.is
              ∙ ap (λ o. continued o (λ x. give (Tagged n))) g.is;
          stays = still_then s f.state g.state f.stays g.stays;
          shows = g.shows;
          fits = sym (names g.state k g.shows (g.stays.kinds n k kind));
        } in
        subst (λ j. Given quietly z s (filled k j rs at keyword s) (IsType z r)) (sym e.0) m;
  }

  -- the braces are refused
  pub filled_fails : {X : Type 0} (There : Work → X → Type 0) (Is : Work → X → State → List Part → Type 0)
      (q : Refusal) → Answers quietly u w (begin_tag n at >> all_members rs []) There Is (Err q) →
      AnswersFor quietly u z (IsTagOf k n) (λ i. filled k i rs at keyword) TypeThere IsType (Err q)
  filled_fails There Is (Code code place) a = λ s h i e.
      subst (λ j. filled k j rs at keyword s ≡ Err (record { code = code; place = place })) (sym e.0)
      (ap (λ o. continued o (λ ms. complete_tag k n ms keyword >> give (Tagged n))) (a s h))
  filled_fails There Is NoMemory a = tt

  -- the members are
  pub members_fail : {X : Type 0} (v : Work) (T : Type 0) (I : State → Unit {0} → Type 0) (There : Work → X → Type 0)
      (Is : Work → X → State → List Part → Type 0) (q : Refusal) → Done quietly u v (begin_tag n at) T I →
      Answers quietly v w (all_members rs []) There Is (Err q) →
      AnswersFor quietly u z (IsTagOf k n) (λ i. filled k i rs at keyword) TypeThere IsType (Err q)
  members_fail v T I There Is q a b =
      filled_fails There Is q
      (also_then quietly quiet_law u v w (begin_tag n at) (all_members rs []) T I There Is (Err q) a b)

  -- the members are refused together
  pub filled_refused : (x : Work) (T : Type 0) (I : State → List Part → Type 0) (q : Refusal) →
      Done quietly u w (begin_tag n at >> all_members rs []) T I →
      ((s : State) (ms : List Part) → Shows w s → I s ms →
      AnswersFor quietly w z (IsTagOf k n) (λ i. complete_tag k i ms keyword) NothingThere IsNothing (Err q)) →
      AnswersFor quietly u x (IsTagOf k n) (λ i. filled k i rs at keyword) TypeThere IsType (Err q)
  filled_refused x T I (Code code place) a all = λ s h i e.
      let f = a.gives s h in
      subst (λ j. filled k j rs at keyword s ≡ Err (record { code = code; place = place })) (sym e.0)
      (ap (λ o. continued o (λ ms. complete_tag k n ms keyword >> give (Tagged n))) f.is
      ∙ ap (λ o. continued o (λ y. give (Tagged n)))
      (all f.state f.value f.shows f.fits f.state f.shows n (refl, f.stays.kinds n k e.1)))
  filled_refused x T I NoMemory a all = tt
