-- Each front of a module's file that a reader takes is the front of a whole file: what is open is closed.
use Rattle.std.proofs.Common.{◌≡◌, ℕ, Bool, true, false, not, ◌&&◌, ◌||◌, List, [], ◌∷◌, ◌++◌, codes, refl, sym, ap, ◌∙◌, append_assoc, append-nil, Option, Some, None}
use Rattle.std.specs.Prelude.{is_none, is_some}
use Rattle.net_tree.specs.declared.block.NetBlock.{NetBlock}
use Rattle.net_tree.specs.declared.block.NetBlock.TheVariants.{If, Select, For, Do, While, With}
use Rattle.net_tree.specs.declared.declaration.NetClose.{NetClose}
use Rattle.net_tree.specs.declared.declaration.NetClose.TheVariants as close
use Rattle.net_tree.specs.Blocks.{fits_in, open_behind, role_of}
use Rattle.net_tree.specs.Declarations.{close_text, closes, head_text, is_writable_head}
use Rattle.net_tree.specs.Lines.{is_writable_line}
use Rattle.net_tree.specs.Spelling.{at_depth, is_identifier}
use Rattle.net_tree.specs.Tree.{Head, Line, Procedure, end_if, end_select, end_while, end_with, function, get_part, loop, next, set_part, sub, sub_new}
use Rattle.net_tree.specs.Types as ty
use Rattle.net_exprs.specs.Fitting.{fits_name}
use Rattle.net_exprs.proofs.Words.{by_test, never}
use Rattle.net_reader.specs.Fits.{fits_head, fits_line}
use Rattle.net_reader.specs.Laws.{IsModuleOf}
use Rattle.net_reader.specs.ModuleReader.{Body, NotedModule, Promised, State, among_members, at_front, closed_by, ended, gets, has_no_blocks, headed, in_front, in_part, in_procedure, in_property, in_structure, is_kept, module_end_text, module_head_text, sets, with_get, with_line, with_part, with_set}
use Rattle.net_reader.proofs.BodiesGrow.{close_closes, head_is_body, line_goes}
use Rattle.net_reader.proofs.Growth.{front_begins, front_goes, module_begins}
use Rattle.net_reader.proofs.MembersGrow.{part_begins, part_closes, procedure_closes, property_ends, structure_ends}
use Rattle.net_reader.proofs.SoFar.{Closes, Holds, IsAmongMembers, IsBody, IsInFront, IsInProperty, body_text, is_next_part, may_get, may_set, unmarked}
use Rattle.net_reader.proofs.TakenLines.{depth_ends, ends_behind}
use Rattle.net_reader.proofs.Tests.{and_true}

-- ---- procedures

abbrev closing : NetBlock → Line
closing If = end_if
closing Select = end_select
closing For = next
closing Do = loop
closing While = end_while
closing With = end_with

-- the line that closes a block fits there, and leaves the blocks round it
record ClosesBlock (kind : NetBlock) : Type 0 where
  can : is_writable_line (closing kind) ≡ true
  fits : fits_line (closing kind) ≡ true
  stands : (outer : List NetBlock) → fits_in (role_of (closing kind)) (kind ∷ outer) ≡ true
  leaves : (outer : List NetBlock) → open_behind (role_of (closing kind)) (kind ∷ outer) ≡ outer

closes_block : (kind : NetBlock) → ClosesBlock kind
closes_block If = record { can = refl; fits = refl; stands = λ outer. refl; leaves = λ outer. refl }
closes_block Select = record { can = refl; fits = refl; stands = λ outer. refl; leaves = λ outer. refl }
closes_block For = record { can = refl; fits = refl; stands = λ outer. refl; leaves = λ outer. refl }
closes_block Do = record { can = refl; fits = refl; stands = λ outer. refl; leaves = λ outer. refl }
closes_block While = record { can = refl; fits = refl; stands = λ outer. refl; leaves = λ outer. refl }
closes_block With = record { can = refl; fits = refl; stands = λ outer. refl; leaves = λ outer. refl }

-- a procedure without open blocks that begins as another
record WithoutBlocks (depth : ℕ) (b : Body) : Type 0 where
  last : Body
  more : List ℕ
  body : IsBody last
  none : last.blocks ≡ []
  head : last.tree.head ≡ b.tree.head
  text : body_text depth last ≡ body_text depth b ++ more

without_blocks : (depth : ℕ) (blocks : List NetBlock) (b : Body) → b.blocks ≡ blocks → IsBody b → WithoutBlocks depth b
without_blocks depth [] b e is = record { last = b; more = []; body = is; none = e; head = refl; text = sym (append-nil (body_text depth b)) }
without_blocks depth (kind ∷ outer) b e is =
    let line = closes_block kind in
    let goes = line_goes depth b (closing kind) is line.can line.fits (ap (fits_in (role_of (closing kind))) e ∙ line.stands outer) in
    let rest = without_blocks depth outer (with_line b (closing kind)) (ap (open_behind (role_of (closing kind))) e ∙ line.leaves outer) goes.body in
    record {
      last = rest.last;
      more = _ ++ rest.more;
      body = rest.body;
      none = rest.none;
      head = rest.head;
      text = rest.text ∙ ap (λ t. t ++ rest.more) goes.text ∙ append_assoc (body_text depth b) _ rest.more;
    }

abbrev closing_line : Head → NetClose
closing_line (sub visibility n params) = close.EndSub
closing_line (function visibility n params t) = close.EndFunction
closing_line sub_new = close.EndSub
closing_line get_part = close.EndGet
closing_line (set_part n t) = close.EndSet

closes_head : (h : Head) → closes h (closing_line h) ≡ true
closes_head (sub visibility n params) = refl
closes_head (function visibility n params t) = refl
closes_head sub_new = refl
closes_head get_part = refl
closes_head (set_part n t) = refl

-- a whole procedure that begins as what is read of it
record Whole (depth : ℕ) (b : Body) : Type 0 where
  tree : Procedure
  more : List ℕ
  closed : Closes depth b more tree

whole : (depth : ℕ) (b : Body) → IsBody b → Whole depth b
whole depth b is =
    let rest = without_blocks depth b.blocks b refl is in
    let line = closing_line rest.last.tree.head in
    let closed = close_closes depth rest.last line rest.body (closes_head rest.last.tree.head) (ap has_no_blocks rest.none) in
    record {
      tree = closed_by rest.last line;
      more = rest.more ++ at_depth depth (close_text line);
      closed = record {
        writable = closed.writable;
        fits = closed.fits;
        text = closed.text ∙ ap (λ t. t ++ at_depth depth (close_text line)) rest.text ∙ append_assoc (body_text depth b) rest.more (at_depth depth (close_text line));
        head = rest.head;
        ends = ends_behind rest.more (at_depth depth (close_text line)) (depth_ends depth (close_text line));
      };
    }

-- ---- tests

neither : (a b : Bool) → a || not b ≡ false → (a ≡ false) × (b ≡ true)
neither true b h = never (sym h)
neither false true h = (refl, refl)
neither false false h = never (sym h)

turned : (a b : Bool) → a || not b ≡ true → not b || a ≡ true
turned a true h = or_left a h
  where
    or_left : (a : Bool) → a || false ≡ true → a ≡ true
    or_left true h = refl
    or_left false h = never h
turned a false h = refl

is_lacking : {A : Type 0} (o : Option A) → is_some o ≡ false → is_none o ≡ true
is_lacking None h = refl
is_lacking (Some x) h = never (sym h)

-- where a part that gets is to come, none that sets is there
no_set_yet : {A : Type 0} (o : Option A) (a b : Bool) → not (is_some o) || not a || b ≡ true → a ≡ true → b ≡ false → is_none o ≡ true
no_set_yet None a b h k l = refl
no_set_yet (Some x) a b h k l = never (sym (ap (λ a. not a || b) k ∙ l) ∙ h)

module _ (known : Option (Option (List ℕ))) (name : List ℕ) (is_name : is_identifier name ≡ true) (name_fits : fits_name name ≡ true) where
  -- a module whose file begins with some bytes
  abbrev pub Completed : List ℕ → Type 0
  Completed bytes = (m : NotedModule) × IsModuleOf known name m × ((more : List ℕ) × (unmarked m ≡ bytes ++ more))

  longer : (bytes line : List ℕ) → Completed (bytes ++ line) → Completed bytes
  longer bytes line done = (done.0, done.1, (line ++ done.2.0, done.2.1 ∙ append_assoc bytes line done.2.0))

  members_complete : (bytes : List ℕ) (m : NotedModule) → IsAmongMembers known name bytes m → Completed bytes
  members_complete bytes m is =
      (m, is.tree, (at_depth 0 (module_end_text m.tree.class), ap (λ b. b ++ at_depth 0 (module_end_text m.tree.class)) (sym is.are)))

  -- ---- properties

  part_whole : (bytes : List ℕ) (m : NotedModule) (p : Promised) (h : Head) (c : NetClose) → IsInProperty known name bytes m p → is_next_part p h ≡ true →
      is_writable_head h ≡ true → fits_head h ≡ true → closes h c ≡ true →
      IsInProperty known name (bytes ++ at_depth 2 (head_text h) ++ at_depth 2 (close_text c)) m (with_part p (closed_by (headed h) c))
  part_whole bytes m p h c is stands can fits ends =
      part_closes known name (bytes ++ at_depth 2 (head_text h)) (at_depth 2 (close_text c)) m p (headed h) (closed_by (headed h) c)
      (part_begins known name bytes m p h is stands can fits) (close_closes 2 (headed h) c (head_is_body h can fits) ends refl)

  kept_completes : (bytes : List ℕ) (m : NotedModule) (p : Promised) → IsInProperty known name bytes m p → is_kept p ≡ true → Completed bytes
  kept_completes bytes m p is kept = longer bytes _ (members_complete _ _ (property_ends known name bytes m p is kept))

  abbrev set_head : Head
  set_head = set_part (codes "Value") ty.object

  got_completes : (bytes : List ℕ) (m : NotedModule) (p : Promised) → IsInProperty known name bytes m p → is_some p.tree.get || not (gets p.access) ≡ true → Completed bytes
  got_completes bytes m p is got =
      by_test (is_some p.tree.set || not (sets p.access)) (λ b. is_some p.tree.set || not (sets p.access) ≡ b → Completed bytes)
      (λ t h. kept_completes bytes m p is (and_true (is_some p.tree.get || not (gets p.access)) (is_some p.tree.set || not (sets p.access)) got h))
      (λ f h. let lacks = neither (is_some p.tree.set) (sets p.access) h in
      let may : may_set p ≡ true =
      and_true (sets p.access && is_none p.tree.set) (not (gets p.access) || is_some p.tree.get)
      (and_true (sets p.access) (is_none p.tree.set) lacks.1 (is_lacking p.tree.set lacks.0)) (turned (is_some p.tree.get) (gets p.access) got) in
      let part = closed_by (headed set_head) close.EndSet in
      let set = part_whole bytes m p set_head close.EndSet is may refl refl refl in
      longer bytes (at_depth 2 (head_text set_head))
      (longer (bytes ++ at_depth 2 (head_text set_head)) (at_depth 2 (close_text close.EndSet))
      (kept_completes _ m (with_set p part) set (and_true (is_some p.tree.get || not (gets p.access)) true got refl)))) refl

  property_completes : (bytes : List ℕ) (m : NotedModule) (p : Promised) → IsInProperty known name bytes m p → Completed bytes
  property_completes bytes m p is =
      by_test (is_some p.tree.get || not (gets p.access)) (λ b. is_some p.tree.get || not (gets p.access) ≡ b → Completed bytes)
      (λ t h. got_completes bytes m p is h)
      (λ f h. let lacks = neither (is_some p.tree.get) (gets p.access) h in
      let may : may_get p ≡ true =
      and_true (gets p.access && is_none p.tree.get) (is_none p.tree.set)
      (and_true (gets p.access) (is_none p.tree.get) lacks.1 (is_lacking p.tree.get lacks.0))
      (no_set_yet p.tree.set (gets p.access) (is_some p.tree.get) is.promised.in_order lacks.1 lacks.0) in
      let part = closed_by (headed get_part) close.EndGet in
      let get = part_whole bytes m p get_part close.EndGet is (ap (λ t. t || false) may) refl refl refl in
      longer bytes (at_depth 2 (head_text get_part))
      (longer (bytes ++ at_depth 2 (head_text get_part)) (at_depth 2 (close_text close.EndGet)) (got_completes _ m (with_get p part) get refl))) refl

  -- ---- any state

  front_completes : (bytes : List ℕ) (head : Option (List ℕ)) (named : List ℕ) (texts : List (List ℕ)) → IsInFront known name bytes head named texts → Completed bytes
  front_completes bytes head named [] is =
      longer bytes (at_depth 0 (module_head_text false named)) (members_complete _ _ (module_begins known name is_name name_fits bytes head named false is))
  front_completes bytes head named (text ∷ texts) is =
      longer bytes (at_depth 0 text) (front_completes (bytes ++ at_depth 0 text) head named texts (front_goes known name bytes head named text texts is))

  pub completes : (bytes : List ℕ) (s : State) → Holds known name bytes s → Completed bytes
  completes bytes (at_front named) is = front_completes bytes None named _ (front_begins known name bytes None named is refl)
  completes bytes (in_front head named texts) is = front_completes bytes head named texts is
  completes bytes (among_members m) is = members_complete bytes m is
  completes bytes (in_structure m s) is = longer bytes (at_depth 1 (codes "End Structure")) (members_complete _ _ (structure_ends known name bytes m s is))
  completes bytes (in_property m p) is = property_completes bytes m p is
  completes bytes (in_procedure m b) is =
      let p = whole 1 b is.body in longer bytes p.more (members_complete _ _ (procedure_closes known name bytes p.more m b p.tree is p.closed))
  completes bytes (in_part m p b) is =
      let part = whole 2 b is.body in longer bytes part.more (property_completes _ m _ (part_closes known name bytes part.more m p b part.tree is part.closed))
  completes bytes (ended m) is = (m, is.tree, ([], sym is.are ∙ sym (append-nil bytes)))
