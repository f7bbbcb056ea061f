-- What stands before the ending of a file's name or of a line.
use Rattle.std.proofs.Common.{◌≡◌, ◌≢◌, ℕ, List, ◌++◌, codes, refl, sym, ap, ◌∙◌, Option, Some, MatchOption, Bor}
use Rattle.net_exprs.specs.Answers.{now_of}
use Rattle.net_reader.specs.ProjectReader.{base_name}
use Rattle.net_reader.proofs.FileNames.{base_is, base_of}

pub base_found : (file : List ℕ) (found : Option (Bor (List ℕ))) → MatchOption found ((front : List ℕ) → file ≢ front ++ codes ".vb") (λ x. file ≡ x.now ++ codes ".vb") → now_of found ≡ base_name file
base_found file Option.None h = go (base_name file) refl
  where
    go : (o : Option (List ℕ)) → base_name file ≡ o → Option.None ≡ o
    go Option.None e = refl
    go (Some name) e = absurd (h name (base_is file name e))
base_found file (Some x) h = sym (base_of x.now) ∙ ap base_name (sym h)
