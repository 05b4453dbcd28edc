use Rattle.tac_lower.proofs.Called.{taken, call_lowered, call_value_lowered, service_lowered, return_lowered}
use Rattle.tac_lower.proofs.Called.{program_lowered}
use Rattle.tac_lower.proofs.laws.calls_keep_code_well_formed.Goals as goal

pub returns : goal.returns
returns c = record {
  call = λ p d types homes a b to n args ks r ps s. call_lowered p d types homes a b s to n args ks r ps;
  call_value = λ p d types homes a b to v t args at ks r ps s.
      call_value_lowered p d types homes a b s to v t args at ks r ps;
  service = λ p d types homes a b op to args s. service_lowered p d types homes a b s op to args;
  given = λ p d types homes a b v r ps s. return_lowered p d types homes a b s v r ps;
  part = λ p d types homes a b i s. program_lowered p d types homes a b s i;
  arguments = taken;
}
