-- A call and a word are no numbers with decimals: they mean the same, whatever type is wanted.
use Rattle.std.proofs.Common.{◌≡◌, ℕ, List, refl}
use Rattle.vb_tree.specs.BoundTree.{Ty, currency}
use Rattle.vb_tree.specs.declared.token.Suffix.{Suffix}
use Rattle.vb_tree.specs.Tree.{Args, Exp, index, word}
use Rattle.expression_words.specs.Meanings.{Scope}
use Rattle.bound_exprs.specs.Resolved.{resolved}
use Rattle.declarations.specs.ConstantExpressions.{resolved_as}

pub index_as : (S : Scope) (e : Exp) (args : Args) (ty : Ty) → resolved_as S (index e args) ty ≡ resolved S (index e args)
index_as S e args currency = refl
index_as S e args _ = refl

pub word_as : (S : Scope) (name : List ℕ) (s : Suffix) (ty : Ty) → resolved_as S (word name s) ty ≡ resolved S (word name s)
word_as S name s currency = refl
word_as S name s _ = refl
