-- Names behind the path of a variable or of a property: what the path leads to is where they begin.
use Rattle.std.proofs.Common.{◌≡◌, ap, ◌∙◌, ℕ, Bool, true, false, cond, List, [], ◌∷◌, ◌++◌, Option, Some, None}
use Rattle.net_tree.specs.Tree.{Module, Member}
use Rattle.run_base.specs.Positions.{Position}
use Rattle.net_run.specs.Names.{Scope, starts, Reached, at_place, path_start, frame_start, var_in, member_start, module_start, module_member, outer_start, is_support, member_reached, named, named_member, not_found, to_library, to_property, to_support}
use Rattle.net_run.specs.Members.{member_named}
use Rattle.net_run.specs.Shapes.{Shape, module_named, module_at, members_of}
use Rattle.net_run.specs.Store as net
use Rattle.net_run.specs.Values.{Value}

-- what is neither nothing nor a function of the support module or the library
module _ (S : Scope) (z : Reached) (is_found : not_found ≡ z → ⊥) (is_inner : (name : List ℕ) (l : List (List ℕ)) → outer_start name l ≡ starts z [] → ⊥) where
  from_starts : (r : Reached) (left : List (List ℕ)) → starts r left ≡ starts z [] → r ≡ z
  from_starts r left e = cc

  from_left : (r : Reached) (left : List (List ℕ)) → starts r left ≡ starts z [] → left ≡ []
  from_left r left e = cc

  -- behind the name of a module stands one of its members
  module_more : (home : ℕ) (class : Bool) (names more : List (List ℕ)) → module_member S home class names ≡ starts z []
      → module_member S home class (names ++ more) ≡ starts z more
  module_more home true names more e = absurd (is_found (from_starts not_found [] e))
  module_more home false [] more e = absurd (is_found (from_starts not_found [] e))
  module_more home false (name ∷ names) more e =
      ap (λ r. starts r (names ++ more)) (from_starts (named_member S None home name) names e)
      ∙ ap (λ l. starts z (l ++ more)) (from_left (named_member S None home name) names e)

  found_more : (name : List ℕ) (names more : List (List ℕ)) (o : Option (ℕ × Module))
      → module_start S name names o ≡ starts z [] → module_start S name (names ++ more) o ≡ starts z more
  found_more name names more None e = absurd (is_inner name names e)
  found_more name names more (Some found) e = module_more found.0 found.1.class names more e

  member_more : (name : List ℕ) (names more : List (List ℕ)) (o : Option (ℕ × Member))
      → member_start S name names o ≡ starts z [] → member_start S name (names ++ more) o ≡ starts z more
  member_more name names more None e = found_more name names more (module_named S.project name) e
  member_more name names more (Some found) e =
      ap (λ r. starts r (names ++ more)) (from_starts (member_reached S None S.home found.0 found.1) names e)
      ∙ ap (λ l. starts z (l ++ more)) (from_left (member_reached S None S.home found.0 found.1) names e)

  frame_more : (name : List ℕ) (names more : List (List ℕ)) (o : Option net.Address)
      → frame_start S name names o ≡ starts z [] → frame_start S name (names ++ more) o ≡ starts z more
  frame_more name names more None e = member_more name names more (member_named name (members_of (module_at S.project S.home))) e
  frame_more name names more (Some a) e =
      ap (λ r. starts r (names ++ more)) (from_starts (at_place a) names e) ∙ ap (λ l. starts z (l ++ more)) (from_left (at_place a) names e)

  reached_more : (path more : List (List ℕ)) → path_start S false path ≡ starts z [] → path_start S false (path ++ more) ≡ starts z more
  reached_more [] more e = absurd (is_found (from_starts not_found [] e))
  reached_more (name ∷ names) more e = frame_more name names more (var_in S.vars name) e

module _ (S : Scope) (d : Shape) (q : Position) where
  abbrev b : net.Address
  b = net.root d q

  is_place : not_found ≡ at_place b → ⊥
  is_place e = cc

  outer : (name : List ℕ) (l : List (List ℕ)) → outer_start name l ≡ starts (at_place b) [] → ⊥
  outer name [] e = cc
  outer name (member ∷ []) e = cc
  outer name (member ∷ more ∷ names) e = cc

  pub path_more : (path more : List (List ℕ))
      → path_start S false path ≡ starts (at_place (net.root d q)) [] → path_start S false (path ++ more) ≡ starts (at_place (net.root d q)) more
  path_more = reached_more S (at_place b) is_place outer

-- so it is with a property
module _ (S : Scope) (object : Option Value) (get set : Option ℕ) where
  abbrev z : Reached
  z = named (to_property object get set)

  is_property : not_found ≡ z → ⊥
  is_property e = cc

  function : (b : Bool) (name : List ℕ) (names : List (List ℕ)) → named (cond b (to_support name) (to_library names)) ≡ z → ⊥
  function true name names e = cc
  function false name names e = cc

  no_function : (name : List ℕ) (l : List (List ℕ)) → outer_start name l ≡ starts z [] → ⊥
  no_function name [] e = cc
  no_function name (member ∷ []) e = function (is_support name) member (name ∷ member ∷ []) cc
  no_function name (member ∷ more ∷ names) e = cc

  pub property_more : (path more : List (List ℕ)) → path_start S false path ≡ starts (named (to_property object get set)) []
      → path_start S false (path ++ more) ≡ starts (named (to_property object get set)) more
  property_more = reached_more S z is_property no_function
