-- The counts that bound calls and loops are never the cause of an ending: only the turns are.
use Rattle.std.proofs.Common.{◌≡◌, ℕ, zero, suc, ◌+◌, ◌<◌, Bool, List, [], ◌∷◌, Option, Some, None, refl, arith}
use Rattle.std.specs.Prelude.{slice_get}
use Rattle.ck_base.specs.World.{World}
use Rattle.ck_base.specs.declared.positions.Pos.{Pos}
use Rattle.obj_mem.specs.Values.{Value, Int}
use Rattle.cheri_c_sem.specs.Kinds.{Kind, nothing}
use Rattle.cheri_c_sem.specs.Operations.{Operations}
use Rattle.cheri_c_sem.specs.Steps.{State, Fate, Then, ◌>>=◌, ◌>>◌, give, choose, turn}
use Rattle.cheri_c_sem.specs.Tree.{Ex, St, While, Do_while, Parameter, In_variable, In_object, At_end, Gives_nothing}
use Rattle.cheri_c_sem.specs.Tree.{Gives_zero, Lacks, Fun}
use Rattle.cheri_c_sem.specs.Meaning.{At}
use Rattle.cheri_c_sem.specs.Statements.{Flow, Goes, Breaks, Continues, Returns, after_body, loop, repeat, test_of}
use Rattle.cheri_c_sem.specs.Statements.{step_of, exec}
use Rattle.cheri_c_sem.specs.Calls.{frame, pass_one, pass, at_end, result_of, close, back, in_frame, calls}
use Rattle.cheri_c_sem.specs.Depth.{deep}
use Rattle.cheri_c_sem.proofs.Same.{Same, same_give, same_bind, same_then, same_answer, same_choose, same_change_memory}
use Rattle.cheri_c_sem.proofs.Same.{same_set_variable, same_turn}
use Rattle.cheri_c_sem.proofs.SameExpressions.{same_store}
use Rattle.cheri_c_sem.proofs.SameStatements.{same_after_body, same_loop, same_repeat, same_test_of, same_step_of}
use Rattle.cheri_c_sem.proofs.SameStatements.{same_exec}

module _ {M : Type 0} (ops : Operations M) (w : World) where
  same_frame : (n : ℕ) (o : Option ℕ) (i : ℕ) (f : Fun) → Same n (frame ops w o i f) (frame ops w o i f)
  same_frame n None i f = record { at = λ s le k l h. refl }
  same_frame n (Some address) i f = record { at = λ s le k l h. h tt _ (omega arith) }

  same_pass_one : (n : ℕ) (p : Pos) (a : Parameter) (v : Value) → Same n (pass_one ops w p a v) (pass_one ops w p a v)
  same_pass_one n p (In_variable x) v = same_set_variable n x (Some v)
  same_pass_one n p (In_object o k) v = record {
    at = λ s le k' l h.
        (same_then n _ _ _ _ (same_change_memory n (λ m. ops.zero m (s.first + o)))
        (same_store ops w n k (At p (ops.whole s.mem (s.first + o) 125)) v)).at s le k' l h;
  }

  same_pass : (n : ℕ) (p : Pos) (parameters : List Parameter) (vs : List Value) →
      Same n (pass ops w p parameters vs) (pass ops w p parameters vs)
  same_pass n p [] vs = same_give n tt
  same_pass n p (a ∷ parameters) [] = same_give n tt
  same_pass n p (a ∷ parameters) (v ∷ vs) = same_then n _ _ _ _ (same_pass_one n p a v) (same_pass n p parameters vs)

  same_at_end : (n : ℕ) (p : Pos) (e : At_end) → Same n (at_end ops w p e) (at_end ops w p e)
  same_at_end n p Gives_nothing = same_give n nothing
  same_at_end n p Gives_zero = same_give n (Int 0)
  same_at_end n p (Lacks k) = same_answer n p (ops.falls k)

  same_result : (n : ℕ) (f : Fun) (flow : Flow) → Same n (result_of ops w f flow) (result_of ops w f flow)
  same_result n f (Returns v) = same_give n v
  same_result n f Goes = same_at_end n f.name f.at_end
  same_result n f Breaks = same_at_end n f.name f.at_end
  same_result n f Continues = same_at_end n f.name f.at_end

  same_close : (n : ℕ) (f : Fun) → Same n (close ops w f) (close ops w f)
  same_close n f = record { at = λ s le k l h. h tt _ (omega arith) }

  same_back : (n : ℕ) (caller : State M) → Same n (back ops w caller) (back ops w caller)
  same_back n caller = record { at = λ s le k l h. h tt _ (omega arith) }

  module _ (funs : List Fun) where
    same_in_frame : (call call' : ℕ → List Value → Then M Value) (n : ℕ) →
        ((m : ℕ) → m < n → (f : ℕ) (vs : List Value) → Same m (call f vs) (call' f vs)) →
        (i : ℕ) (o : Option Fun) (vs : List Value) →
        Same n (in_frame ops w funs call i o vs) (in_frame ops w funs call' i o vs)
    same_in_frame call call' n h i None vs = same_give n nothing
    same_in_frame call call' n h i (Some f) vs = record {
      at = λ s le k l hk.
          (same_then n _ _ _ _ (same_frame n (ops.enter i s.frame) i f)
          (same_then n _ _ _ _ (same_pass n f.name f.params vs)
          (same_bind n _ _ _ _ (same_exec ops w call call' n h f.body)
          (λ flow. same_bind n _ _ _ _ (same_result n f flow) (λ v.
          same_then n _ _ _ _ (same_close n f) (same_then n _ _ _ _ (same_back n s) (same_give n v))))))).at s le k l
          hk;
    }

    same_calls : (a b n : ℕ) → n < a → n < b → (f : ℕ) (vs : List Value) →
        Same n (calls ops w funs a f vs) (calls ops w funs b f vs)
    same_calls zero b n la lb f vs = absurd (omega arith)
    same_calls (suc a) zero n la lb f vs = absurd (omega arith)
    same_calls (suc a) (suc b) n la lb f vs =
        same_in_frame (calls ops w funs a) (calls ops w funs b) n
        (λ m lm. same_calls a b m (omega arith) (omega arith)) f (slice_get funs f) vs

    -- calls to a depth that the turns allow come to the same as calls as deep as they allow
    deep_enough : (a n : ℕ) → n < a → (f : ℕ) (vs : List Value) →
        Same n (calls ops w funs a f vs) (deep ops w funs f vs)
    deep_enough a n la f vs =
        record {
          at = λ t lt k l h. (same_calls a (suc t.left) t.left (omega arith) (omega arith) f vs).at t
              (omega arith) k l h;
        }

    same_deep : (n : ℕ) (f : ℕ) (vs : List Value) → Same n (deep ops w funs f vs) (deep ops w funs f vs)
    same_deep n f vs = record {
      at = λ t lt k l h.
          (same_calls (suc t.left) (suc t.left) t.left (omega arith) (omega arith) f vs).at t (omega arith) k l h;
    }

    -- a call is its function's body, in a frame, over calls as deep as the turns allow
    pub call_unfolds : (f : ℕ) (vs : List Value) (s : State M) (k : Value → State M → Fate) →
        deep ops w funs f vs s k ≡ in_frame ops w funs (deep ops w funs) f (slice_get funs f) vs s k
    call_unfolds f vs s k = (same_in_frame (calls ops w funs s.left) (deep ops w funs) s.left
        (λ m lm. deep_enough s.left m lm) f (slice_get funs f) vs).at s (omega arith) k k (λ x t lt. refl)

    -- a program's run is that of `main` over such calls, whatever the depth, if the turns allow no more
    pub depth_is_enough : (a : ℕ) (f : ℕ) (vs : List Value) (s : State M) (k : Value → State M → Fate) → s.left < a →
        calls ops w funs a f vs s k ≡ deep ops w funs f vs s k
    depth_is_enough a f vs s k la = (deep_enough a s.left la f vs).at s (omega arith) k k (λ x t lt. refl)

    -- ---- loops over such calls

    here : (n : ℕ) (m : ℕ) → m < n → (f : ℕ) (vs : List Value) → Same m (deep ops w funs f vs) (deep ops w funs f vs)
    here n m lm f vs = same_deep m f vs

    -- one round of a loop, and then the loop
    abbrev pub round : Then M Bool → Then M Flow → Then M (Unit {0}) → Then M Flow → Then M Flow
    round test body step next = test >>= λ c. choose c (body >>= λ f. after_body f (step >> (turn >> next))) (give Goes)

    abbrev pub again : Then M Flow → Then M Bool → Then M Flow → Then M Flow
    again body test next = body >>= λ f. after_body f (test >>= λ c. choose c (turn >> next) (give Goes))

    -- a loop goes on as a loop, with as many turns as are left then
    loop_goes_on : (t : Then M Bool) (c : Then M Flow) (u : Then M (Unit {0})) → ((n : ℕ) → Same n t t) →
        ((n : ℕ) → Same n c c) → ((n : ℕ) → Same n u u) → (s : State M) (k : Flow → State M → Fate) →
        loop (suc s.left) t c u s k ≡ round t c u (λ r. loop (suc r.left) t c u r) s k
    loop_goes_on t c u ht hc hu s k =
        (same_bind s.left t t _ _ (ht s.left) (λ v. same_choose s.left v _ _ _ _
        (same_bind s.left c c _ _ (hc s.left) (λ f.
        same_after_body s.left f _ _ (same_then s.left u u _ _ (hu s.left)
        (same_turn s.left _ _ (λ m lm. record {
          at = λ x lx k l h.
              (same_loop s.left (suc x.left) x.left (omega arith) (omega arith) t t c c u u (ht x.left) (hc x.left)
              (hu x.left)).at x (omega arith) k l h;
        })))))
        (same_give s.left Goes))).at s (omega arith) k k (λ x t lt. refl)

    repeat_goes_on : (c : Then M Flow) (t : Then M Bool) → ((n : ℕ) → Same n c c) → ((n : ℕ) → Same n t t) →
        (s : State M) (k : Flow → State M → Fate) →
        repeat (suc s.left) c t s k ≡ again c t (λ r. repeat (suc r.left) c t r) s k
    repeat_goes_on c t hc ht s k =
        (same_bind s.left c c _ _ (hc s.left) (λ f.
        same_after_body s.left f _ _ (same_bind s.left t t _ _ (ht s.left) (λ v. same_choose s.left v _ _ _ _
        (same_turn s.left _ _ (λ m lm. record {
          at = λ x lx k l h.
              (same_repeat s.left (suc x.left) x.left (omega arith) (omega arith) c c t t (hc x.left)
              (ht x.left)).at x (omega arith) k l h;
        }))
        (same_give s.left Goes))))).at s (omega arith) k k (λ x t lt. refl)

    self_test : (o : Option (Pos × Kind × Ex)) (n : ℕ) →
        Same n (test_of ops w (deep ops w funs) o) (test_of ops w (deep ops w funs) o)
    self_test o n = same_test_of ops w (deep ops w funs) (deep ops w funs) n (here n) o

    self_step : (o : Option Ex) (n : ℕ) → Same n (step_of ops w (deep ops w funs) o) (step_of ops w (deep ops w funs) o)
    self_step o n = same_step_of ops w (deep ops w funs) (deep ops w funs) n (here n) o

    self_body : (b : St) (n : ℕ) → Same n (exec ops w (deep ops w funs) b) (exec ops w (deep ops w funs) b)
    self_body b n = same_exec ops w (deep ops w funs) (deep ops w funs) n (here n) b

    -- `while` goes on as `while`
    pub while_unfolds : (p : Pos) (j : Kind) (e : Ex) (b : St) (s : State M) (k : Flow → State M → Fate) →
        exec ops w (deep ops w funs) (While p j e b) s k
        ≡ round (test_of ops w (deep ops w funs) (Some (p, j, e))) (exec ops w (deep ops w funs) b) (give tt)
        (exec ops w (deep ops w funs) (While p j e b)) s k
    while_unfolds p j e b s k = loop_goes_on _ _ _ (self_test (Some (p, j, e))) (self_body b) (λ n. same_give n tt) s k

    -- `do` goes on as `do`
    pub do_unfolds : (p : Pos) (j : Kind) (b : St) (e : Ex) (s : State M) (k : Flow → State M → Fate) →
        exec ops w (deep ops w funs) (Do_while p j b e) s k
        ≡ again (exec ops w (deep ops w funs) b) (test_of ops w (deep ops w funs) (Some (p, j, e)))
        (exec ops w (deep ops w funs) (Do_while p j b e)) s k
    do_unfolds p j b e s k = repeat_goes_on _ _ (self_body b) (self_test (Some (p, j, e))) s k

    -- the loop of a `for`
    abbrev pub for_loop : Option (Pos × Kind × Ex) → Option Ex → St → Then M Flow
    for_loop t u b = λ s. loop (suc s.left) (test_of ops w (deep ops w funs) t) (exec ops w (deep ops w funs) b)
        (step_of ops w (deep ops w funs) u) s

    -- goes on as that loop
    pub for_unfolds : (t : Option (Pos × Kind × Ex)) (u : Option Ex) (b : St) (s : State M)
        (k : Flow → State M → Fate) →
        for_loop t u b s k ≡ round (test_of ops w (deep ops w funs) t) (exec ops w (deep ops w funs) b)
        (step_of ops w (deep ops w funs) u) (for_loop t u b) s k
    for_unfolds t u b s k = loop_goes_on _ _ _ (self_test t) (self_body b) (self_step u) s k
