-- The command is a simple one, whose arguments have no rule on one another.
use Rattle.std.proofs.Common.{◌≡◌, List, [], true, refl, inl, inr, subst}
use Rattle.clap.specs.Faults.{is_simple_and_free}
use Rattle.clap.specs.Kinds.{Kinds, IsAmong}
use Rattle.clap.specs.Words.{HasKind, is_simple, kind_of}
use Rattle.clap.specs.declared.error.Error.{Error}
use Rattle.clap.specs.declared.error.kind.ErrorKind.TheVariants.{OutOfMemory}
use Rattle.clap.proofs.OnLiterals.{clap_on_literals}
use Rattle.command_line.specs.Lines.{command}

pub simple : is_simple command ≡ true
unfolding clap_on_literals
simple = refl

pub simple_and_free : is_simple_and_free command ≡ true
unfolding clap_on_literals
simple_and_free = refl

-- an error of none of these kinds is want of memory
pub one_of_none : (kinds : Kinds) (e : Error) → (kind_of e ≡ OutOfMemory → ⊥) → kinds ≡ [] → HasKind kinds e → ⊥
one_of_none kinds e other none (inl memory) = other memory
one_of_none kinds e other none (inr among) = subst (λ (ks : Kinds). IsAmong (kind_of e) ks) none among
