use Rattle.std.proofs.Common.{◌≡◌, ℕ, map, nat_eq, ap, ◌∙◌}
use Rattle.std.specs.Prelude.{position}
use Rattle.vb_tree.specs.View.{module_of}
use Rattle.vb_tree.specs.declared.declared.ProcKind.{ProcKind}
use Rattle.vb_tree.specs.declared.declared.ProcKind.TheVariants as kind
use Rattle.bound_facts.specs.Members.{class_files}
use Rattle.bound_tree.specs.Tree.{Declarations}
use Rattle.indexmap.specs.IndexMap.{get}
use Rattle.name_tables.specs.View.{shown_declarations}
use Rattle.expression_words.specs.declared.member_tables.MemberTables.{MemberTables}
use Rattle.expression_words.specs.MemberTables.{AreMemberTables, ArePlaces, class_files_in, noted_part}
use Rattle.expression_words.specs.Members.{part}
use Rattle.expression_words.proofs.member_tables.MemberTables.make.Goals as goal

are_parts : (t : MemberTables) (D : Declarations)
    → ((first : ℕ) → get nat_eq t.subs first ≡ part D kind.Sub first)
    → ((first : ℕ) → get nat_eq t.functions first ≡ part D kind.Function first)
    → ((first : ℕ) → get nat_eq t.gets first ≡ part D kind.Get first)
    → ((first : ℕ) → get nat_eq t.lets first ≡ part D kind.Let first)
    → ((first : ℕ) → get nat_eq t.sets first ≡ part D kind.Set first)
    → (k : ProcKind) (first : ℕ) → noted_part t k first ≡ part D k first
are_parts t D subs functions gets lets sets kind.Sub first = subs first
are_parts t D subs functions gets lets sets kind.Function first = functions first
are_parts t D subs functions gets lets sets kind.Get first = gets first
are_parts t D subs functions gets lets sets kind.Let first = lets first
are_parts t D subs functions gets lets sets kind.Set first = sets first

are_tables : (t : MemberTables) (D : Declarations)
    → ((first : ℕ) → get nat_eq t.subs first ≡ part D kind.Sub first)
    → ((first : ℕ) → get nat_eq t.functions first ≡ part D kind.Function first)
    → ((first : ℕ) → get nat_eq t.gets first ≡ part D kind.Get first)
    → ((first : ℕ) → get nat_eq t.lets first ≡ part D kind.Let first)
    → ((first : ℕ) → get nat_eq t.sets first ≡ part D kind.Set first)
    → t.class_files.items ≡ class_files D.project → ((file : ℕ) → get nat_eq t.classes file ≡ position (nat_eq file) t.class_files.items)
    → ArePlaces t.places D → AreMemberTables t D
are_tables t D subs functions gets lets sets files classes places = record {
  parts = are_parts t D subs functions gets lets sets;
  class_files = files;
  classes = λ file. classes file ∙ ap (position (nat_eq file)) files;
  places = places;
}

pub returns : goal.returns
returns c =
    are_tables _ (shown_declarations c.args.d.now) c.in_ok-subs.ensures c.in_ok-functions.ensures c.in_ok-gets.ensures c.in_ok-lets.ensures c.in_ok-sets.ensures
    (c.in_ok-class_files.ensures ∙ ap (λ ms. class_files_in (map module_of ms)) c.as_slice.ensures)
    (λ file. c.in_ok-classes.ensures file ∙ ap (position (nat_eq file)) c.deref.ensures.value)
    c.in_ok-places.ensures
