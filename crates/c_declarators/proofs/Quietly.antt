-- Answers of steps that add types alone.
use Rattle.std.proofs.Common.{◌≡◌, Ok, Err, ap, ◌∙◌}
use Rattle.ck_base.specs.declared.refusal.Refusal.{Refusal}
use Rattle.ck_base.specs.declared.refusal.Refusal.TheVariants.{Code, NoMemory}
use Rattle.c_tree.specs.Scopes.{State, Doing, continued, ◌>>◌}
use Rattle.c_expressions.specs.declared.nodes.Nodes.{Nodes}
use Rattle.c_expressions.specs.Nodes as nodes
use Rattle.c_elaborator.specs.declared.work.Work.{Work}
use Rattle.c_elaborator.specs.Work.{Shows}
use Rattle.c_elaborator.specs.Answers.{quietly, Done, Answers}
use Rattle.c_elaborator.proofs.Growing.{quiet_nodes, shows_nodes}
use Rattle.c_elaborator.proofs.Sequencing.{still_same}
use Rattle.c_declarators.specs.Parts.{IsJudged}

-- what is given, which may hang on the state
pub given_quietly : {A : Type 0} (w : Work) (n : Nodes) (d : Doing A) (T : Type 0) (I : State → A → Type 0)
    (v : State → A) → nodes.Keeps w.nodes n → T → ((s : State) → Shows w s → d s ≡ Ok (v s, s)) →
    ((s : State) → Shows w s → I s (v s)) →
    Done quietly w (record w { nodes = n }) d T I
given_quietly w n d T I v k t g i = record {
  whole = k.whole;
  grows = quiet_nodes w n k;
  there = t;
  gives = λ s h. record {
    value = v s;
    state = s;
    is = g s h;
    stays = still_same s;
    shows = shows_nodes w n s k h;
    fits = i s h;
  };
}

-- a test fails before all the rest
pub judged_err : {A X : Type 0} (u v : Work) (d : Doing A) (test : State → Doing Unit) (rest : State → Doing A)
    (There : Work → X → Type 0) (Is : Work → X → State → A → Type 0) (r : Refusal) →
    ((s : State) → Shows u s → d s ≡ (test s >> rest s) s) → ((s : State) → Shows u s → IsJudged (test s) (Err r)) →
    Answers quietly u v d There Is (Err r)
judged_err u v d test rest There Is (Code code place) h j = λ s k. h s k ∙ ap (λ o. continued o (λ x. rest s)) (j s k s)
judged_err u v d test rest There Is NoMemory h j = tt

-- it is passed
pub judged_ok : {A : Type 0} (test : Doing Unit) (rest : Doing A) (s : State) → IsJudged test (Ok tt) →
    (test >> rest) s ≡ rest s
judged_ok test rest s j = ap (λ o. continued o (λ x. rest)) (j s)
