use Rattle.expression_words.proofs.converting.+plain_in.Given as goal

abbrev pub decreases-plain_in : goal.decreases-plain_in
decreases-plain_in l = l.n
