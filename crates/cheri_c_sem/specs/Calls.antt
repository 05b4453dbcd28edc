-- What calls mean, and programs.
use Rattle.std.specs.Prelude.{ℕ, zero, suc, ◌+◌, ◌-◌, ◌%◌, List, [], ◌∷◌, ◌++◌, length, replicate, Option, Some, None}
use Rattle.std.specs.Prelude.{Result, Ok, Err, slice_get}
use Rattle.ck_base.specs.World.{World, Outcome, nothing_done}
use Rattle.ck_base.specs.declared.positions.Pos.{Pos}
use Rattle.cap_ops.specs.Permissions.{data_permissions}
use Rattle.obj_mem.specs.Values.{Value}
use Rattle.obj_mem.specs.Values as value
use Rattle.obj_mem.specs.declared.ending.Fault.{Fault}
use Rattle.obj_mem.specs.declared.ending.Ending.{Ending}
use Rattle.obj_mem.specs.declared.ending.Ending.TheVariants as ending
use Rattle.cheri_c_sem.specs.Kinds.{nothing, number_of}
use Rattle.cheri_c_sem.specs.Operations.{Operations}
use Rattle.cheri_c_sem.specs.Steps.{State, Fate, Then, ◌>>=◌, ◌>>◌, give, over, ends, answer, change_memory}
use Rattle.cheri_c_sem.specs.Steps.{set_variable, outcome_of}
use Rattle.cheri_c_sem.specs.Tree.{Parameter, In_variable, In_object, At_end, Gives_nothing, Gives_zero, Lacks, Fun}
use Rattle.cheri_c_sem.specs.Tree.{Starting, Global, Program}
use Rattle.cheri_c_sem.specs.Meaning.{At, store, further}
use Rattle.cheri_c_sem.specs.Statements.{Flow, Goes, Breaks, Continues, Returns, exec}

module _ {M : Type 0} (ops : Operations M) where
  -- ---- the objects of a call

  -- those of the lengths, from number n of the function's on
  abbrev pub add_locals : M → (frame f n : ℕ) → List ℕ → M
  add_locals m frame f n [] = m
  add_locals m frame f n (l ∷ ls) = add_locals (ops.add_local m frame f n l) frame f (suc n) ls

  -- as many as there are lengths, from an object on
  abbrev pub end_locals : M → ℕ → List ℕ → M
  end_locals m object [] = m
  end_locals m object (l ∷ ls) = end_locals (ops.end m object) (suc object) ls

  -- ---- the start of a program

  -- from number k on
  abbrev pub add_globals : M → ℕ → List Global → M
  add_globals m k [] = m
  add_globals m k (g ∷ gs) = add_globals (ops.add_global m k g.length) (suc k) gs

  abbrev pub add_literals : M → ℕ → List (List ℕ) → M
  add_literals m k [] = m
  add_literals m k (bs ∷ rest) = add_literals (ops.add_literal m k (length bs)) (suc k) rest

  abbrev pub memory_or : M → Result M Fault → M
  memory_or m (Ok n) = n
  memory_or m (Err e) = m

  abbrev pub written : M → (object at bytes : ℕ) → Value → M
  written m object at bytes v = memory_or m (ops.store m (further (ops.whole m object data_permissions) at) bytes v)

  -- bytes from a place of an object on
  abbrev pub with_bytes : M → (object at : ℕ) → List ℕ → M
  with_bytes m object at [] = m
  with_bytes m object at (b ∷ bs) = with_bytes (written m object at 1 (value.Int b)) object (suc at) bs

  abbrev pub with_links : M → ℕ → List Starting → M
  with_links m object [] = m
  with_links m object (l ∷ ls) = with_links (written m object l.at 16 l.value) object ls

  abbrev pub all_bytes : Global → List ℕ
  all_bytes g = g.bytes ++ replicate (g.length - length g.bytes) 0

  -- the globals from an object on, with their bytes; with the pointers in them; and the literals
  abbrev pub fill_globals : M → ℕ → List Global → M
  fill_globals m object [] = m
  fill_globals m object (g ∷ gs) = fill_globals (with_bytes m object 0 (all_bytes g)) (suc object) gs

  abbrev pub link_globals : M → ℕ → List Global → M
  link_globals m object [] = m
  link_globals m object (g ∷ gs) = link_globals (with_links m object g.links) (suc object) gs

  abbrev pub fill_literals : M → ℕ → List (List ℕ) → M
  fill_literals m object [] = m
  fill_literals m object (bs ∷ rest) = fill_literals (with_bytes m object 0 bs) (suc object) rest

  -- the objects of the globals and then those of the literals, in their order, with what stands in them at the start
  unfoldable pub start : Program → M
  start p =
      let objects = add_literals (add_globals ops.empty 0 p.globals) 0 p.literals in
      let filled = fill_literals (fill_globals objects 0 p.globals) (length p.globals) p.literals in
      link_globals filled 0 p.globals

  -- ---- calls

  module _ (w : World) where
    -- a fresh frame, where there is room for it
    abbrev pub frame : Option ℕ → ℕ → Fun → Then M (Unit {0})
    frame None n f = ends (ending.Stack f.name)
    frame (Some address) n f =
        λ s k. k tt (record s {
          vars = replicate f.vars None;
          first = ops.count s.mem;
          mem = add_locals s.mem address n 0 f.objects;
          frame = address;
        })

    -- An argument comes into a variable, or into an object, which is then zero bytes first
    abbrev pub pass_one : Pos → Parameter → Value → Then M (Unit {0})
    pass_one p (In_variable x) v = set_variable x (Some v)
    pass_one p (In_object n k) v = λ s. (do
      change_memory (λ m. ops.zero m (s.first + n))
      store ops w k (At p (ops.whole s.mem (s.first + n) data_permissions)) v) s

    abbrev pub pass : Pos → List Parameter → List Value → Then M (Unit {0})
    pass p [] vs = give tt
    pass p (a ∷ parameters) [] = give tt
    pass p (a ∷ parameters) (v ∷ vs) = do
      pass_one p a v
      pass p parameters vs

    abbrev pub at_end : Pos → At_end → Then M Value
    at_end p Gives_nothing = give nothing
    at_end p Gives_zero = give (value.Int 0)
    at_end p (Lacks k) = answer p (ops.falls k)

    -- what a function gives whose body was left so
    abbrev pub result_of : Fun → Flow → Then M Value
    result_of f (Returns v) = give v
    result_of f Goes = at_end f.name f.at_end
    result_of f Breaks = at_end f.name f.at_end
    result_of f Continues = at_end f.name f.at_end

    -- the locals end
    abbrev pub close : Fun → Then M (Unit {0})
    close f = λ s k. k tt (record s { mem = end_locals s.mem s.first f.objects })

    -- back in the caller's state
    abbrev pub back : State M → Then M (Unit {0})
    back caller = λ s k. k tt (record s { vars = caller.vars; first = caller.first; frame = caller.frame })

    module _ (funs : List Fun) where
      -- a call of function n, over the meaning of further calls
      abbrev pub in_frame : (ℕ → List Value → Then M Value) → ℕ → Option Fun → List Value → Then M Value
      in_frame call n None vs = give nothing
      in_frame call n (Some f) vs = λ s. (do
        frame (ops.enter n s.frame) n f
        pass f.name f.params vs
        flow ← exec ops w call f.body
        v ← result_of f flow
        close f
        back s
        give v) s

      -- calls, at most so many deep
      abbrev pub calls : ℕ → ℕ → List Value → Then M Value
      calls zero n vs = ends ending.Turns
      calls (suc depth) n vs = in_frame (calls depth) n (slice_get funs n) vs

  -- ---- programs

  abbrev pub first_state : Program → ℕ → State M
  first_state p turns = record {
    vars = [];
    first = 0;
    mem = start p;
    frame = ops.stack_top;
    left = turns;
    done = nothing_done;
  }

  -- what a program's run comes to: `main` is called, with so many turns, and its value is the exit
  unfoldable pub fate : Program → World → ℕ → Fate
  fate p w turns = calls w p.funs (suc turns) p.main [] (first_state p turns)
      (λ v. over (ending.Exit (number_of v % 256)))

  abbrev pub meant : Program → World → ℕ → Outcome Ending
  meant p w turns = outcome_of w (fate p w turns)
