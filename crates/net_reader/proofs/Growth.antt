-- A line that a reader of a module takes leads from what was read before it to what is read with it.
use Rattle.std.proofs.Common.{◌≡◌, ℕ, Bool, true, false, not, cond, ◌&&◌, ◌||◌, List, [], ◌∷◌, ◌++◌, codes, refl, sym, ap, subst, ◌∙◌, append_assoc, append-nil, Option, Some, None}
use Rattle.std.specs.Prelude.{IfSome, drop, option_and_then, option_map}
use Rattle.std.specs.List.{flat_map}
use Rattle.std.proofs.lemmas.Option.{MatchOption-at_some}
use Rattle.net_tree.specs.declared.declaration.NetVisibility.{NetVisibility}
use Rattle.net_tree.specs.Comments.{comment_text, is_comment}
use Rattle.net_tree.specs.Lines.{lines_text}
use Rattle.net_tree.specs.Declarations.{close_text, constant_text, dim_text, part_text, property_head_text, variable_text, visibility_text, field_text, head_text, is_get, is_set, is_writable_field, is_writable_head, is_writable_member, member_text}
use Rattle.net_tree.specs.Spelling.{at_depth, is_identifier}
use Rattle.net_tree.specs.Text.{is_note}
use Rattle.net_tree.specs.Tree.{Dim, Field, Head, Member, Property, Structure, const_member, get_part, member_comment, proc, property, structure, variable}
use Rattle.net_tree.specs.Types.{TypeName}
use Rattle.net_exprs.specs.Ends.{begins_with}
use Rattle.net_exprs.specs.Fitting.{fits_name}
use Rattle.net_exprs.specs.Names.{name_at}
use Rattle.net_exprs.specs.Types.{type_at}
use Rattle.net_exprs.proofs.Words.{both_true}
use Rattle.net_reader.specs.DeclarationReader.{Signature, constant_in, field_at, function_in, property_in, set_in, signature_at, sub_in, variable_in, visibility_of}
use Rattle.net_reader.specs.FileLines.{text_of_line, units_in}
use Rattle.net_reader.specs.Fits.{fits_field, fits_head, fits_member, fits_text}
use Rattle.net_reader.specs.Laws.{IsNoteKnown}
use Rattle.net_reader.specs.ModuleReader.{Access, NotedModule, Promised, State, among_members, at_front, behind_part, behind_procedure, both_parts, ended, first_step, front_lines, front_step, get_taken, grown, head_taken, headed, in_front, in_part, in_procedure, in_property, in_structure, is_kept, is_line, member_by, member_of, member_step, member_taken, module_end_text, module_head_text, note_in, opened, promise, promised_text, property_by, property_taken, read_only, set_taken, step, structure_by, structure_head_text, structure_taken, with_comment, with_field, with_member, write_only}
use Rattle.net_reader.specs.Words as w
use Rattle.net_reader.specs.Words.{behind_word, keyword_at}
use Rattle.net_reader.proofs.BodiesGrow.{body_grows}
use Rattle.net_reader.proofs.FileCuts.{ends_line}
use Rattle.net_reader.proofs.MembersGrow.{bare, comment_holds, or_true, field_holds, member_holds, part_begins, part_grows, procedure_begins, procedure_grows, property_begins, property_ends, structure_begins, structure_ends}
use Rattle.net_reader.proofs.SoFar.{Grows, GrowsTo, Holds, IsAmongMembers, IsAtFront, IsInFront, IsInProperty, IsInStructure, front_text, structure_front, may_get, may_set}
use Rattle.net_reader.proofs.TakenLines.{any_found, depth_ends, ends_behind, found_makes, if_makes, line_makes, line_too_makes, map_makes, taken_makes, then_makes}
use Rattle.net_reader.proofs.Tests.{and_true}

-- every member ends with a line
member_text_ends : (x : Member) → ends_line (member_text x) ≡ true
member_text_ends (member_comment units) = depth_ends 1 (comment_text units)
member_text_ends (variable visibility v) = depth_ends 1 (visibility_text visibility ++ variable_text v)
member_text_ends (const_member visibility c) = depth_ends 1 (visibility_text visibility ++ constant_text c)
member_text_ends (structure s) = ends_behind (structure_front s) (at_depth 1 (codes "End Structure")) refl
member_text_ends (property p) = ends_behind (at_depth 1 (property_head_text p) ++ part_text p.get_comments p.get ++ part_text p.set_comments p.set) (at_depth 1 (codes "End Property")) refl
member_text_ends (proc p) =
    ends_behind (at_depth 1 (head_text p.head) ++ flat_map (λ (d : Dim). at_depth 2 (dim_text d)) p.prologue ++ lines_text 2 p.lines) (at_depth 1 (close_text p.close))
    (depth_ends 1 (close_text p.close))

-- a property that is begun has no part
abbrev HasNoParts : Property → Type 0
HasNoParts p = bare p ≡ p

no_parts : (visibility : NetVisibility) (text : List ℕ) → IfSome (property_in visibility text) HasNoParts
no_parts visibility text =
    then_makes _ HasNoParts (λ s. typed s.0 s.1) (signature_at text)
  where
    typed : (s : Signature) (text : List ℕ) →
        IfSome (option_map (λ (t : TypeName × List ℕ). record { visibility = visibility; name = s.name; params = s.params; ty = t.0; get_comments = []; get = None; set_comments = []; set = None }) (type_at (drop 4 text))) HasNoParts
    typed s text = map_makes _ (λ t. Unit {0}) HasNoParts (λ t h. refl) (type_at (drop 4 text)) (any_found (type_at (drop 4 text)))

-- ---- the front of a file

pub any_front : (note : Option (List ℕ)) → flat_map (at_depth 0) (front_lines note) ≡ front_text note
any_front None = refl
any_front (Some note) = refl

module _ (known : Option (Option (List ℕ))) (name : List ℕ) where
  pub front_goes : (bytes : List ℕ) (head : Option (List ℕ)) (named text : List ℕ) (texts : List (List ℕ)) → IsInFront known name bytes head named (text ∷ texts) →
      IsInFront known name (bytes ++ at_depth 0 text) head named texts
  front_goes bytes head named text texts is = record {
    is_known = is.is_known;
    note = is.note;
    same = is.same;
    are = append_assoc bytes (at_depth 0 text) (flat_map (at_depth 0) texts) ∙ is.are;
  }

  pub front_begins : (bytes : List ℕ) (note : Option (List ℕ)) (named : List ℕ) → IsAtFront known name bytes named → is_note note ≡ true →
      IsInFront known name bytes note named (front_lines note)
  front_begins bytes note named is h = record {
    is_known = subst (λ (k : Option (Option (List ℕ))). IsNoteKnown k note) (sym is.is_known) tt;
    note = h;
    same = is.same;
    are = ap (λ b. b ++ flat_map (at_depth 0) (front_lines note)) is.are ∙ any_front note;
  }

module _ (known : Option (Option (List ℕ))) (name : List ℕ) (is_name : is_identifier name ≡ true) (name_fits : fits_name name ≡ true) where
  abbrev Gives : (bytes line : List ℕ) → Option State → Type 0
  Gives bytes line o = IfSome o (Grows known name bytes line)

  -- ---- members

  member_gives : (bytes line : List ℕ) (m : NotedModule) (found : Option Member) → IsAmongMembers known name bytes m → Gives bytes line (member_taken m line found)
  member_gives bytes line m found is =
      taken_makes _ _ (λ (x : Member). among_members (with_member m x)) (Grows known name bytes)
      (λ x h. let both = both_true (is_writable_member x) (fits_member x) h in
      record { holds = member_holds known name bytes m x is both.0 both.1; ends = member_text_ends x })
      line found

  head_gives : (bytes line : List ℕ) (m : NotedModule) (found : Option Head) → IsAmongMembers known name bytes m → Gives bytes line (head_taken m line found)
  head_gives bytes line m found is =
      taken_makes _ _ (λ (h : Head). in_procedure m (headed h)) (Grows known name bytes)
      (λ x h. let both = both_true (not (is_get x || is_set x) && is_writable_head x) (fits_head x) h in
      let can = both_true (not (is_get x || is_set x)) (is_writable_head x) both.0 in
      record { holds = procedure_begins known name bytes m x is can.0 can.1 both.1; ends = depth_ends 1 (head_text x) })
      line found

  structure_gives : (bytes line : List ℕ) (m : NotedModule) (found : Option (List ℕ × List ℕ)) → IsAmongMembers known name bytes m → Gives bytes line (structure_taken m line found)
  structure_gives bytes line m found is =
      taken_makes _ _ (λ (n : List ℕ). in_structure m (record { name = n; fields = [] })) (Grows known name bytes)
      (λ n h. let both = both_true (is_identifier n) (fits_name n) h in
      record { holds = structure_begins known name bytes m n is both.0 both.1; ends = depth_ends 1 (structure_head_text n) })
      line (option_map (λ (n : List ℕ × List ℕ). n.0) found)

  property_gives : (bytes line : List ℕ) (m : NotedModule) (access : Access) (visibility : NetVisibility) (text : List ℕ) → IsAmongMembers known name bytes m →
      Gives bytes line (property_taken m access line (property_in visibility text))
  property_gives bytes line m access visibility text is =
      found_makes _ _ (λ (p : Property). in_property m (promise access p)) HasNoParts (Grows known name bytes)
      (λ p none h. record {
        holds =
            subst (λ (t : Property). IsInProperty known name (bytes ++ at_depth 1 (promised_text (promise access t))) m (promise access t)) none
            (property_begins known name bytes m access p is h);
        ends = depth_ends 1 (promised_text (promise access p));
      })
      line (property_in visibility text) (no_parts visibility text)

  visible_gives : (bytes line : List ℕ) (m : NotedModule) (visibility : NetVisibility) (word : Option w.Word) (text : List ℕ) → IsAmongMembers known name bytes m →
      Gives bytes line (member_of m visibility word text line)
  visible_gives bytes line m visibility None text is = member_gives bytes line m (option_map (variable visibility) (variable_in text)) is
  visible_gives bytes line m visibility (Some w.const_word) text is = member_gives bytes line m (option_map (const_member visibility) (constant_in (drop 6 text))) is
  visible_gives bytes line m visibility (Some w.structure_word) text is = structure_gives bytes line m (name_at (drop 10 text)) is
  visible_gives bytes line m visibility (Some w.sub_word) text is = head_gives bytes line m (sub_in visibility (drop 4 text)) is
  visible_gives bytes line m visibility (Some w.function_word) text is = head_gives bytes line m (function_in visibility (drop 9 text)) is
  visible_gives bytes line m visibility (Some w.property_word) text is = property_gives bytes line m both_parts visibility (drop 9 text) is
  visible_gives bytes line m visibility (Some w.read_only_word) text is = property_gives bytes line m read_only visibility (drop 18 text) is
  visible_gives bytes line m visibility (Some w.write_only_word) text is = property_gives bytes line m write_only visibility (drop 19 text) is
  visible_gives bytes line m visibility (Some _) text is = tt

  end_gives : (bytes line : List ℕ) (m : NotedModule) → IsAmongMembers known name bytes m →
      Gives bytes line (cond (is_line 0 (module_end_text m.tree.class) line) (Some (ended m)) None)
  end_gives bytes line m is =
      line_makes (Grows known name bytes) 0 (module_end_text m.tree.class) line (ended m) None
      (record {
        holds = record { tree = is.tree; are = ap (λ b. b ++ at_depth 0 (module_end_text m.tree.class)) is.are };
        ends = depth_ends 0 (module_end_text m.tree.class);
      }) tt

  other_gives : (bytes line : List ℕ) (m : NotedModule) (word : Option w.Word) (text : List ℕ) → IsAmongMembers known name bytes m →
      Gives bytes line (option_and_then (λ (visibility : NetVisibility). member_of m visibility (keyword_at text) text line) (visibility_of word))
  other_gives bytes line m word text is =
      then_makes (λ (visibility : NetVisibility). member_of m visibility (keyword_at text) text line) (Grows known name bytes line)
      (λ visibility. visible_gives bytes line m visibility (keyword_at text) text is) (visibility_of word)

  by_gives : (bytes line : List ℕ) (m : NotedModule) (word : Option w.Word) (text : List ℕ) → IsAmongMembers known name bytes m → Gives bytes line (member_by m word text line)
  by_gives bytes line m (Some w.end_word) text is = end_gives bytes line m is
  by_gives bytes line m word text is = other_gives bytes line m word text is

  members_give : (bytes line : List ℕ) (m : NotedModule) (text : List ℕ) → IsAmongMembers known name bytes m → Gives bytes line (member_step m text line)
  members_give bytes line m text is =
      if_makes (Grows known name bytes line) (begins_with 39 text) _ _
      (λ t. member_gives bytes line m (option_map member_comment (units_in (drop 1 text))) is)
      (λ t. by_gives bytes line m (keyword_at text) (drop 1 (behind_word text)) is)

  -- ---- structures

  field_gives : (bytes line : List ℕ) (m : NotedModule) (s : Structure) → IsInStructure known name bytes m s → Gives bytes line (structure_by m s None line)
  field_gives bytes line m s is =
      taken_makes _ _ (λ (f : Field). in_structure m (with_field s f)) (Grows known name bytes)
      (λ f h. let both = both_true (is_writable_field f) (fits_field f) h in
      record { holds = field_holds known name bytes m s f is both.0 both.1; ends = depth_ends 2 (field_text f) })
      line (field_at (text_of_line line))

  in_structure_gives : (bytes line : List ℕ) (m : NotedModule) (s : Structure) (word : Option w.Word) → IsInStructure known name bytes m s → Gives bytes line (structure_by m s word line)
  in_structure_gives bytes line m s None is = field_gives bytes line m s is
  in_structure_gives bytes line m s (Some w.end_word) is =
      line_makes (Grows known name bytes) 1 (codes "End Structure") line (among_members (with_member m (structure s))) None
      (record { holds = structure_ends known name bytes m s is; ends = refl }) tt
  in_structure_gives bytes line m s (Some _) is = field_gives bytes line m s is

  -- ---- properties

  get_gives : (bytes line : List ℕ) (m : NotedModule) (p : Promised) → IsInProperty known name bytes m p → Gives bytes line (get_taken m p line)
  get_gives bytes line m p is =
      line_too_makes (Grows known name bytes) (may_get p) 2 (head_text get_part) line (in_part m p (headed get_part))
      (λ may. record { holds = part_begins known name bytes m p get_part is (ap (λ t. t || false) may) refl refl; ends = refl })

  set_gives : (bytes line : List ℕ) (m : NotedModule) (p : Promised) → IsInProperty known name bytes m p → Gives bytes line (set_taken m p line)
  set_gives bytes line m p is =
      taken_makes _ _ (λ (h : Head). in_part m p (headed h)) (Grows known name bytes)
      (λ x h. let three = both_true (may_set p && is_set x && is_writable_head x) (fits_head x) h in
      let two = both_true (may_set p && is_set x) (is_writable_head x) three.0 in
      let one = both_true (may_set p) (is_set x) two.0 in
      let next = or_true (is_get x && may_get p) (is_set x && may_set p) (and_true (is_set x) (may_set p) one.1 one.0) in
      record { holds = part_begins known name bytes m p x is next two.1 three.1; ends = depth_ends 2 (head_text x) })
      line (set_in (drop 3 (text_of_line line)))

  comment_gives : (bytes line : List ℕ) (m : NotedModule) (p : Promised) → IsInProperty known name bytes m p → Gives bytes line (property_by m p None line)
  comment_gives bytes line m p is =
      taken_makes _ _ (λ (units : List ℕ). in_property m (with_comment p units)) (Grows known name bytes)
      (λ units h. let two = both_true (not (is_kept p) && is_comment units) (fits_text units) h in
      let one = both_true (not (is_kept p)) (is_comment units) two.0 in
      record { holds = comment_holds known name bytes m p units is one.0 one.1 two.1; ends = depth_ends 2 (comment_text units) })
      line (units_in (drop 1 (text_of_line line)))

  in_property_gives : (bytes line : List ℕ) (m : NotedModule) (p : Promised) (word : Option w.Word) → IsInProperty known name bytes m p → Gives bytes line (property_by m p word line)
  in_property_gives bytes line m p None is = comment_gives bytes line m p is
  in_property_gives bytes line m p (Some w.get_word) is = get_gives bytes line m p is
  in_property_gives bytes line m p (Some w.set_word) is = set_gives bytes line m p is
  in_property_gives bytes line m p (Some w.end_word) is =
      line_too_makes (Grows known name bytes) (is_kept p) 1 (codes "End Property") line (among_members (with_member m (property p.tree)))
      (λ kept. record { holds = property_ends known name bytes m p is kept; ends = refl })
  in_property_gives bytes line m p (Some _) is = comment_gives bytes line m p is

  -- ---- the first lines of a file

  pub module_begins : (bytes : List ℕ) (note : Option (List ℕ)) (named : List ℕ) (class : Bool) → IsInFront known name bytes note named [] →
      IsAmongMembers known name (bytes ++ at_depth 0 (module_head_text class named)) (opened note named class)
  module_begins bytes note named class is =
      let head = at_depth 0 (module_head_text class named) in
      record {
        tree = record {
          is_known = is.is_known;
          note = is.note;
          named = is.same;
          writable = and_true (is_identifier named) true (ap is_identifier is.same ∙ is_name) refl;
          fits = and_true (fits_name named) true (ap fits_name is.same ∙ name_fits) refl;
        };
        are = ap (λ b. b ++ head) (sym (append-nil bytes) ∙ is.are) ∙ sym (append-nil (front_text note ++ head));
      }

  front_gives : (bytes line : List ℕ) (note : Option (List ℕ)) (named : List ℕ) (texts : List (List ℕ)) → IsInFront known name bytes note named texts →
      Gives bytes line (front_step note named texts line)
  front_gives bytes line note named [] is =
      line_makes (Grows known name bytes) 0 (module_head_text false named) line (among_members (opened note named false)) _
      (record { holds = module_begins bytes note named false is; ends = depth_ends 0 (module_head_text false named) })
      (line_makes (Grows known name bytes) 0 (module_head_text true named) line (among_members (opened note named true)) None
      (record { holds = module_begins bytes note named true is; ends = depth_ends 0 (module_head_text true named) }) tt)
  front_gives bytes line note named (text ∷ texts) is =
      line_makes (Grows known name bytes) 0 text line (in_front note named texts) None
      (record { holds = front_goes known name bytes note named text texts is; ends = depth_ends 0 text }) tt

  first_gives : (bytes line : List ℕ) (note : Option (List ℕ)) (named : List ℕ) → IsAtFront known name bytes named → Gives bytes line (first_step named note line)
  first_gives bytes line note named is =
      if_makes (Grows known name bytes line) (is_note note) _ None
      (λ h. front_gives bytes line note named (front_lines note) (front_begins known name bytes note named is h)) (λ h. tt)

  -- ---- any line

  pub step_gives : (bytes line : List ℕ) (s : State) → Holds known name bytes s → Gives bytes line (step s line)
  step_gives bytes line (at_front named) is = first_gives bytes line (note_in (text_of_line line)) named is
  step_gives bytes line (in_front note named texts) is = front_gives bytes line note named texts is
  step_gives bytes line (among_members m) is = members_give bytes line m (text_of_line line) is
  step_gives bytes line (in_structure m s) is = in_structure_gives bytes line m s (keyword_at (text_of_line line)) is
  step_gives bytes line (in_property m p) is = in_property_gives bytes line m p (keyword_at (text_of_line line)) is
  step_gives bytes line (in_procedure m b) is =
      map_makes (behind_procedure m) (GrowsTo 1 b line) (Grows known name bytes line) (λ g h. procedure_grows known name bytes line m b g is h) (grown 1 b line) (body_grows 1 b line is.body)
  step_gives bytes line (in_part m p b) is =
      map_makes (behind_part m p) (GrowsTo 2 b line) (Grows known name bytes line) (λ g h. part_grows known name bytes line m p b g is h) (grown 2 b line) (body_grows 2 b line is.body)
  step_gives bytes line (ended m) is = tt

  -- what a step leads to holds, and its line ends
  pub grows : (bytes : List ℕ) (s : State) (line : List ℕ) (next : State) → Holds known name bytes s → step s line ≡ Some next →
      Holds known name (bytes ++ line) next × (ends_line line ≡ true)
  grows bytes s line next is e =
      let grown : Grows known name bytes line next = MatchOption-at_some (Unit {0}) (Grows known name bytes line) next e (step_gives bytes line s is) in
      (grown.holds, grown.ends)
