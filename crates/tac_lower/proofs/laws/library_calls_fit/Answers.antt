use Rattle.tac_lower.proofs.Services.{library_fits, exit_fits, work_fits, address_fits, bounds_fit}
use Rattle.tac_lower.proofs.laws.library_calls_fit.Goals as goal

pub returns : goal.returns
returns c = record {
  library = λ p e. library_fits p e;
  exit = λ p e. exit_fits p e;
  work = λ p e takes gives args ts k to a b h q g r f i. work_fits p e takes gives args ts k to a b h q g r f i;
  address = λ p e takes gives args ts k to a b h q g r f i. address_fits p e takes gives args ts k to a b h q g r f i;
  bounds = λ p e takes gives args ts k to a b h q g r f i. bounds_fit p e takes gives args ts k to a b h q g r f i;
}
