use Rattle.purecap_abi.proofs.words.+number.Given as goal

abbrev pub decreases-number : goal.decreases-number
decreases-number l = l.value
