-- The program control-select-case-stops-at-the-first, what it puts out and how it ends.
use Rattle.std.proofs.Common.{◌≡◌, refl, ◌++◌, List, ℤ, pos, Bool, true, false, [], ◌∷◌, codes, Some, None}
use Rattle.vb_tree.specs.declared.declared.VarId.{VarId}
use Rattle.bound_tree.specs.Tree as bound
use Rattle.net_tree.specs.Tree as net
use Rattle.net_tree.specs.Types as net_types
use Rattle.vb_tree.specs.BoundTree as types
use Rattle.vb_tree.specs.Tree as vb
use Rattle.net_tree.specs.declared.expression.CastWord.TheVariants as cast
use Rattle.net_tree.specs.declared.declaration.NetClose.TheVariants as close
use Rattle.vb_tree.specs.declared.declared.ProcKind.TheVariants as kind
use Rattle.vb_tree.specs.declared.token.Literal6.TheVariants as literal
use Rattle.bound_tree.specs.declared.body.Mention.TheVariants as mention
use Rattle.bound_tree.specs.declared.declared.Named.TheVariants as named
use Rattle.net_tree.specs.declared.expression.NetBin.TheVariants as net_bin
use Rattle.net_tree.specs.declared.declaration.NetPassing.TheVariants as net_passing
use Rattle.net_tree.specs.declared.declaration.NetVisibility.TheVariants as net_visible
use Rattle.bound_tree.specs.declared.expression.Origin.TheVariants as origin
use Rattle.vb_tree.specs.declared.declared.Owner.TheVariants as owner
use Rattle.vb_tree.specs.declared.form_parts.Passing.TheVariants as passing
use Rattle.vb_tree.specs.declared.project.ProjectKind.TheVariants as project_kind
use Rattle.bound_tree.specs.declared.declared.Scope.TheVariants as scope
use Rattle.vb_tree.specs.declared.token.Suffix.TheVariants as suffix
use Rattle.vb_tree.specs.declared.value.Value6.TheVariants as value
use Rattle.vb_tree.specs.declared.form_parts.Visibility.TheVariants as visible
use Rattle.std.specs.Fmt.{digits}
use Rattle.example_runs.proofs.Said.{ended, line, ran, runnable_of}
use Rattle.vb6_run.specs.Runnables.{Runnable}

abbrev pub project : vb.Project
project = (record {
  file = (record {
    kind = project_kind.Exe;
    startup = (Some (3, (codes "Sub Main")));
    entries = ((record
        { line = 2; class = false; name = (codes "Main1"); file = (codes "Main1.bas") }) ∷ []);
    dropped = ([]);
  });
  modules = ((record {
    file = 1;
    name = (codes "Main1");
    class = false;
    members = (
        (vb.proc (record {
          place = (record { file = 1; line = 1 });
          text = (codes "Function Say(ByVal n As Long) As Long");
          form
              = (vb.function_head (record {
                visibility = None;
                name = (codes "Say");
                suffix = suffix.Absent;
                params = ((record {
                  optional
                      = false;
                  passing = passing.Value;
                  param_array = false;
                  name = (codes "n");
                  suffix = suffix.Absent;
                  array = false;
                  ty =
                      (Some (vb.named (codes "Long")));
                  preset = None;
                }) ∷ []);
              }) (Some (record {
                ty = (vb.named (codes "Long"));
                array = false;
              })));
        }) (vb.next_node
        (vb.line (record {
          place = (record { file = 1; line = 2 });
          text = (68 ∷ 101 ∷ 98 ∷ 117 ∷ 103 ∷ 46 ∷ 80 ∷ 114 ∷ 105
              ∷ 110 ∷ 116 ∷ 32 ∷ 34 ∷ 115 ∷ 97 ∷ 121 ∷ 34 ∷ 59 ∷ 32 ∷ 110 ∷ []);
          form = (vb.debug_print ((vb.lit (literal.Str (codes
              "say"))) ∷ (vb.word (codes "n") suffix.Absent) ∷ []) false);
        })) (vb.next_node
        (vb.line (record {
          place = (record { file = 1; line = 3 });
          text = (codes "Say = n");
          form = (vb.assign (vb.word (codes
              "Say") suffix.Absent) (vb.word (codes "n") suffix.Absent));
        })) vb.no_nodes)) (record {
          place = (record {
            file = 1;
            line
                = 4;
          });
          text = (codes "End Function");
          form = vb.end_function;
        })) ∷
        (vb.proc (record {
          place = (record { file = 1; line = 6 });
          text = (codes "Sub Main()");
          form = (vb.sub_head (record {
            visibility = None;
            name = (codes "Main");
            suffix = suffix.Absent;
            params = ([]);
          }));
        }) (vb.next_node
        (vb.block (record {
          place = (record { file = 1; line = 7 });
          text = (codes "Select Case Say(2)");
          form = (vb.select
              (vb.index (vb.word (codes "Say") suffix.Absent) (vb.next_arg None false (vb.given (vb.lit (literal.Int (pos 2) false)))
              vb.no_args)));
        }) vb.no_nodes (vb.next_middle (record {
          place = (record { file = 1; line = 8 });
          text = (codes "Case Say(1), Say(2), Say(3)");
          form = (vb.case_line ((vb.case_value (vb.index (vb.word (codes "Say") suffix.Absent) (vb.next_arg None false (vb.given
              (vb.lit (literal.Int (pos 1) false))) vb.no_args))) ∷ (vb.case_value (vb.index (vb.word (codes "Say") suffix.Absent) (vb.next_arg
              None false (vb.given (vb.lit (literal.Int (pos 2) false))) vb.no_args))) ∷ (vb.case_value (vb.index (vb.word (codes "Say")
              suffix.Absent) (vb.next_arg None false (vb.given (vb.lit (literal.Int (pos 3) false))) vb.no_args))) ∷ []));
        }) (vb.next_node
        (vb.line (record {
          place = (record { file = 1; line = 9 });
          text = (68 ∷ 101 ∷ 98 ∷ 117 ∷ 103 ∷ 46 ∷ 80 ∷ 114 ∷ 105
              ∷ 110 ∷ 116 ∷ 32 ∷ 34 ∷ 102 ∷ 111 ∷ 117 ∷ 110 ∷ 100 ∷ 34 ∷ []);
          form = (vb.debug_print ((vb.lit (literal.Str (codes "found")))
              ∷ []) false);
        })) vb.no_nodes) (vb.next_middle (record {
          place = (record { file = 1; line = 10 });
          text = (codes "Case Say(4)");
          form = (vb.case_line ((vb.case_value (vb.index (vb.word (codes "Say") suffix.Absent) (vb.next_arg None false (vb.given
              (vb.lit (literal.Int (pos 4) false))) vb.no_args))) ∷ []));
        }) (vb.next_node
        (vb.line (record {
          place = (record { file = 1; line = 11 });
          text = (68 ∷ 101 ∷ 98 ∷ 117 ∷ 103 ∷ 46 ∷ 80 ∷ 114 ∷ 105
              ∷ 110 ∷ 116 ∷ 32 ∷ 34 ∷ 110 ∷ 101 ∷ 118 ∷ 101 ∷ 114 ∷ 34 ∷ []);
          form = (vb.debug_print ((vb.lit (literal.Str (codes "never")))
              ∷ []) false);
        })) vb.no_nodes) vb.no_middles)) (record {
          place = (record { file = 1; line = 12 });
          text = (codes "End Select");
          form = vb.end_select;
        })) (vb.next_node
        (vb.block (record {
          place = (record { file = 1; line = 13 });
          text = (codes "Select Case 5");
          form = (vb.select (vb.lit
              (literal.Int (pos 5) false)));
        }) vb.no_nodes (vb.next_middle (record {
          place = (record { file = 1; line = 14 });
          text
              = (codes "Case Say(6) To Say(7)");
          form = (vb.case_line ((vb.case_range (vb.index (vb.word (codes "Say") suffix.Absent)
              (vb.next_arg None false (vb.given (vb.lit (literal.Int (pos 6) false))) vb.no_args)) (vb.index (vb.word (codes "Say")
              suffix.Absent) (vb.next_arg None false (vb.given (vb.lit (literal.Int (pos 7) false))) vb.no_args))) ∷ []));
        }) (vb.next_node
        (vb.line (record {
          place = (record { file = 1; line = 15 });
          text = (68 ∷ 101 ∷ 98 ∷ 117 ∷ 103 ∷ 46 ∷ 80 ∷ 114 ∷ 105
              ∷ 110 ∷ 116 ∷ 32 ∷ 34 ∷ 110 ∷ 101 ∷ 118 ∷ 101 ∷ 114 ∷ 34 ∷ []);
          form = (vb.debug_print ((vb.lit (literal.Str (codes "never")))
              ∷ []) false);
        })) vb.no_nodes) (vb.next_middle (record {
          place = (record { file = 1; line = 16 });
          text = (codes "Case Say(4) To Say(5)");
          form = (vb.case_line ((vb.case_range (vb.index (vb.word (codes "Say") suffix.Absent) (vb.next_arg None false (vb.given
              (vb.lit (literal.Int (pos 4) false))) vb.no_args)) (vb.index (vb.word (codes "Say") suffix.Absent) (vb.next_arg None false
              (vb.given (vb.lit (literal.Int (pos 5) false))) vb.no_args))) ∷ []));
        }) (vb.next_node
        (vb.line (record {
          place = (record { file = 1; line = 17 });
          text = (68 ∷ 101 ∷ 98 ∷ 117 ∷ 103 ∷ 46 ∷ 80 ∷ 114 ∷ 105
              ∷ 110 ∷ 116 ∷ 32 ∷ 34 ∷ 114 ∷ 97 ∷ 110 ∷ 103 ∷ 101 ∷ 34 ∷ []);
          form = (vb.debug_print ((vb.lit (literal.Str (codes "range")))
              ∷ []) false);
        })) vb.no_nodes) vb.no_middles)) (record {
          place = (record { file = 1; line = 18 });
          text = (codes "End Select");
          form = vb.end_select;
        })) vb.no_nodes)) (record {
          place = (record { file = 1; line = 19 });
          text = (codes "End Sub");
          form
              = vb.end_sub;
        })) ∷ []);
    comments = ([]);
  }) ∷ []);
})

abbrev pub declarations : bound.Declarations
declarations = (record {
  project = project;
  names = (
      (record { name = (codes "Say"); scope = (scope.Public 1); named = (named.Proc (record { 0 = 0 })) }) ∷
      (record { name = (codes "n"); scope = (scope.Local (record { 0 = 0 })); named = (named.Var (record { 0 = 0 })) }) ∷
      (record { name = (codes "Say"); scope = (scope.Local (record { 0 = 0 })); named = (named.Var (record { 0 = 1 })) }) ∷
      (record { name = (codes "Main"); scope = (scope.Public 1); named = (named.Proc (record { 0 = 1 })) }) ∷ []);
  vars = (
      (record {
        name = (codes "n");
        place = (record { file = 1; line = 1 });
        statement = 0;
        owner = (owner.Value (record {
          0
              = 0;
        }));
        ty = types.long;
        named = types.long;
        qualified = false;
        lettered = None;
        bounds = ([]);
        auto = false;
        preset
            = None;
      }) ∷
      (record {
        name = (codes "Say");
        place = (record { file = 1; line = 1 });
        statement = 0;
        owner = (owner.Answer (record
            { 0 = 0 }));
        ty = types.long;
        named = types.long;
        qualified = false;
        lettered = None;
        bounds = ([]);
        auto = false;
        preset
            = None;
      }) ∷ []);
  consts = ([]);
  procs = (
      (record {
        name = (codes "Say");
        place = (record { file = 1; line = 1 });
        module_number = 1;
        kind = kind.Function;
        visibility
            = visible.Public;
        params = ((record { 0 = 0 }) ∷ []);
        result = types.long;
        answer = (Some (record { 0 = 1 }));
        first =
            (record { 0 = 0 });
      }) ∷
      (record {
        name = (codes "Main");
        place = (record { file = 1; line = 6 });
        module_number = 1;
        kind = kind.Sub;
        visibility
            = visible.Public;
        params = ([]);
        result = types.nothing;
        answer = None;
        first = (record { 0 = 1 });
      }) ∷ []);
  types = ([]);
  enums = ([]);
  defaults = ([]);
})

abbrev pub body_0 : List bound.Line
body_0 = (
    (record {
      source = (record {
        place = (record { file = 1; line = 2 });
        text = (68 ∷ 101 ∷ 98 ∷ 117 ∷ 103 ∷ 46 ∷ 80 ∷ 114
            ∷ 105 ∷ 110 ∷ 116 ∷ 32 ∷ 34 ∷ 115 ∷ 97 ∷ 121 ∷ 34 ∷ 59 ∷ 32 ∷ 110 ∷ []);
        form = (vb.debug_print ((vb.lit (literal.Str
            (codes "say"))) ∷ (vb.word (codes "n") suffix.Absent) ∷ []) false);
      });
      bindings = (record {
        exprs = ((bound.typed types.str
            (bound.constant (value.Str (codes "say")) origin.Literal)) ∷ (bound.typed types.long (bound.variable (record { 0 = 0 })
            false)) ∷ []);
        rules = (record { bits = 0 });
        mentions = ((mention.Var (record { 0 = 0 })) ∷ []);
      });
    }) ∷
    (record {
      source = (record {
        place = (record { file = 1; line = 3 });
        text = (codes "Say = n");
        form = (vb.assign (vb.word
            (codes "Say") suffix.Absent) (vb.word (codes "n") suffix.Absent));
      });
      bindings = (record {
        exprs = ((bound.typed types.long
            (bound.variable (record { 0 = 1 }) false)) ∷ (bound.typed types.long (bound.variable (record { 0 = 0 }) false)) ∷ []);
        rules = (record { bits = 0 });
        mentions = ((mention.Var (record { 0 = 1 })) ∷ (mention.Var (record { 0 = 0 })) ∷ []);
      });
    }) ∷ [])

abbrev pub body_1 : List bound.Line
body_1 = (
    (record {
      source = (record {
        place = (record { file = 1; line = 7 });
        text = (codes "Select Case Say(2)");
        form = (vb.select
            (vb.index (vb.word (codes "Say") suffix.Absent) (vb.next_arg None false (vb.given (vb.lit (literal.Int (pos 2) false)))
            vb.no_args)));
      });
      bindings = (record {
        exprs = ((bound.typed types.long (bound.call (record { 0 = 0 }) false bound.no_object
            (bound.next_passed (bound.by_value (bound.typed types.long (bound.convert types.long (bound.typed types.integer (bound.constant
            (value.Int (pos 2)) origin.Literal))))) bound.no_passed))) ∷ []);
        rules = (record { bits = 0 });
        mentions = ((mention.Proc
            (record { 0 = 0 })) ∷ []);
      });
    }) ∷
    (record {
      source = (record {
        place = (record { file = 1; line = 8 });
        text = (codes "Case Say(1), Say(2), Say(3)");
        form
            = (vb.case_line ((vb.case_value (vb.index (vb.word (codes "Say") suffix.Absent) (vb.next_arg None false (vb.given (vb.lit
            (literal.Int (pos 1) false))) vb.no_args))) ∷ (vb.case_value (vb.index (vb.word (codes "Say") suffix.Absent) (vb.next_arg
            None false (vb.given (vb.lit (literal.Int (pos 2) false))) vb.no_args))) ∷ (vb.case_value (vb.index (vb.word (codes "Say")
            suffix.Absent) (vb.next_arg None false (vb.given (vb.lit (literal.Int (pos 3) false))) vb.no_args))) ∷ []));
      });
      bindings
          = (record {
            exprs = ((bound.typed types.long (bound.call (record { 0 = 0 }) false bound.no_object (bound.next_passed (bound.by_value
                (bound.typed types.long (bound.convert types.long (bound.typed types.integer (bound.constant (value.Int (pos 1)) origin.Literal)))))
                bound.no_passed))) ∷ (bound.typed types.long (bound.call (record { 0 = 0 }) false bound.no_object (bound.next_passed (bound.by_value
                (bound.typed types.long (bound.convert types.long (bound.typed types.integer (bound.constant (value.Int (pos 2)) origin.Literal)))))
                bound.no_passed))) ∷ (bound.typed types.long (bound.call (record { 0 = 0 }) false bound.no_object (bound.next_passed (bound.by_value
                (bound.typed types.long (bound.convert types.long (bound.typed types.integer (bound.constant (value.Int (pos 3)) origin.Literal)))))
                bound.no_passed))) ∷ []);
            rules = (record { bits = 0 });
            mentions = ((mention.Proc (record { 0 = 0 })) ∷ (mention.Proc
                (record { 0 = 0 })) ∷ (mention.Proc (record { 0 = 0 })) ∷ []);
          });
    }) ∷
    (record {
      source = (record {
        place = (record { file = 1; line = 9 });
        text = (68 ∷ 101 ∷ 98 ∷ 117 ∷ 103 ∷ 46 ∷ 80 ∷ 114
            ∷ 105 ∷ 110 ∷ 116 ∷ 32 ∷ 34 ∷ 102 ∷ 111 ∷ 117 ∷ 110 ∷ 100 ∷ 34 ∷ []);
        form = (vb.debug_print ((vb.lit (literal.Str (codes
            "found"))) ∷ []) false);
      });
      bindings = (record {
        exprs = ((bound.typed types.str (bound.constant (value.Str (codes "found"))
            origin.Literal)) ∷ []);
        rules = (record { bits = 0 });
        mentions = ([]);
      });
    }) ∷
    (record {
      source = (record {
        place = (record { file = 1; line = 10 });
        text = (codes "Case Say(4)");
        form = (vb.case_line
            ((vb.case_value (vb.index (vb.word (codes "Say") suffix.Absent) (vb.next_arg None false (vb.given (vb.lit (literal.Int
            (pos 4) false))) vb.no_args))) ∷ []));
      });
      bindings = (record {
        exprs = ((bound.typed types.long (bound.call (record {
          0 = 0;
        }) false bound.no_object (bound.next_passed (bound.by_value (bound.typed types.long (bound.convert types.long (bound.typed
            types.integer (bound.constant (value.Int (pos 4)) origin.Literal))))) bound.no_passed))) ∷ []);
        rules = (record {
          bits
              = 0;
        });
        mentions = ((mention.Proc (record { 0 = 0 })) ∷ []);
      });
    }) ∷
    (record {
      source = (record {
        place = (record { file = 1; line = 11 });
        text = (68 ∷ 101 ∷ 98 ∷ 117 ∷ 103 ∷ 46 ∷ 80 ∷ 114
            ∷ 105 ∷ 110 ∷ 116 ∷ 32 ∷ 34 ∷ 110 ∷ 101 ∷ 118 ∷ 101 ∷ 114 ∷ 34 ∷ []);
        form = (vb.debug_print ((vb.lit (literal.Str (codes
            "never"))) ∷ []) false);
      });
      bindings = (record {
        exprs = ((bound.typed types.str (bound.constant (value.Str (codes "never"))
            origin.Literal)) ∷ []);
        rules = (record { bits = 0 });
        mentions = ([]);
      });
    }) ∷
    (record {
      source = (record {
        place = (record { file = 1; line = 12 });
        text = (codes "End Select");
        form = vb.end_select;
      });
      bindings = (record { exprs = ([]); rules = (record { bits = 0 }); mentions = ([]) });
    }) ∷
    (record {
      source = (record {
        place = (record { file = 1; line = 13 });
        text = (codes "Select Case 5");
        form = (vb.select
            (vb.lit (literal.Int (pos 5) false)));
      });
      bindings = (record {
        exprs = ((bound.typed types.long (bound.convert types.long
            (bound.typed types.integer (bound.constant (value.Int (pos 5)) origin.Literal)))) ∷ []);
        rules = (record { bits = 0 });
        mentions = ([]);
      });
    }) ∷
    (record {
      source = (record {
        place = (record { file = 1; line = 14 });
        text = (codes "Case Say(6) To Say(7)");
        form =
            (vb.case_line ((vb.case_range (vb.index (vb.word (codes "Say") suffix.Absent) (vb.next_arg None false (vb.given (vb.lit
            (literal.Int (pos 6) false))) vb.no_args)) (vb.index (vb.word (codes "Say") suffix.Absent) (vb.next_arg None false (vb.given
            (vb.lit (literal.Int (pos 7) false))) vb.no_args))) ∷ []));
      });
      bindings = (record {
        exprs = ((bound.typed types.long (bound.call
            (record { 0 = 0 }) false bound.no_object (bound.next_passed (bound.by_value (bound.typed types.long (bound.convert types.long
            (bound.typed types.integer (bound.constant (value.Int (pos 6)) origin.Literal))))) bound.no_passed))) ∷ (bound.typed types.long
            (bound.call (record { 0 = 0 }) false bound.no_object (bound.next_passed (bound.by_value (bound.typed types.long (bound.convert
            types.long (bound.typed types.integer (bound.constant (value.Int (pos 7)) origin.Literal))))) bound.no_passed))) ∷ []);
        rules = (record { bits = 0 });
        mentions = ((mention.Proc (record { 0 = 0 })) ∷ (mention.Proc (record { 0 = 0 })) ∷ []);
      });
    }) ∷
    (record {
      source = (record {
        place = (record { file = 1; line = 15 });
        text = (68 ∷ 101 ∷ 98 ∷ 117 ∷ 103 ∷ 46 ∷ 80 ∷ 114
            ∷ 105 ∷ 110 ∷ 116 ∷ 32 ∷ 34 ∷ 110 ∷ 101 ∷ 118 ∷ 101 ∷ 114 ∷ 34 ∷ []);
        form = (vb.debug_print ((vb.lit (literal.Str (codes
            "never"))) ∷ []) false);
      });
      bindings = (record {
        exprs = ((bound.typed types.str (bound.constant (value.Str (codes "never"))
            origin.Literal)) ∷ []);
        rules = (record { bits = 0 });
        mentions = ([]);
      });
    }) ∷
    (record {
      source = (record {
        place = (record { file = 1; line = 16 });
        text = (codes "Case Say(4) To Say(5)");
        form =
            (vb.case_line ((vb.case_range (vb.index (vb.word (codes "Say") suffix.Absent) (vb.next_arg None false (vb.given (vb.lit
            (literal.Int (pos 4) false))) vb.no_args)) (vb.index (vb.word (codes "Say") suffix.Absent) (vb.next_arg None false (vb.given
            (vb.lit (literal.Int (pos 5) false))) vb.no_args))) ∷ []));
      });
      bindings = (record {
        exprs = ((bound.typed types.long (bound.call
            (record { 0 = 0 }) false bound.no_object (bound.next_passed (bound.by_value (bound.typed types.long (bound.convert types.long
            (bound.typed types.integer (bound.constant (value.Int (pos 4)) origin.Literal))))) bound.no_passed))) ∷ (bound.typed types.long
            (bound.call (record { 0 = 0 }) false bound.no_object (bound.next_passed (bound.by_value (bound.typed types.long (bound.convert
            types.long (bound.typed types.integer (bound.constant (value.Int (pos 5)) origin.Literal))))) bound.no_passed))) ∷ []);
        rules = (record { bits = 0 });
        mentions = ((mention.Proc (record { 0 = 0 })) ∷ (mention.Proc (record { 0 = 0 })) ∷ []);
      });
    }) ∷
    (record {
      source = (record {
        place = (record { file = 1; line = 17 });
        text = (68 ∷ 101 ∷ 98 ∷ 117 ∷ 103 ∷ 46 ∷ 80 ∷ 114
            ∷ 105 ∷ 110 ∷ 116 ∷ 32 ∷ 34 ∷ 114 ∷ 97 ∷ 110 ∷ 103 ∷ 101 ∷ 34 ∷ []);
        form = (vb.debug_print ((vb.lit (literal.Str (codes
            "range"))) ∷ []) false);
      });
      bindings = (record {
        exprs = ((bound.typed types.str (bound.constant (value.Str (codes "range"))
            origin.Literal)) ∷ []);
        rules = (record { bits = 0 });
        mentions = ([]);
      });
    }) ∷
    (record {
      source = (record {
        place = (record { file = 1; line = 18 });
        text = (codes "End Select");
        form = vb.end_select;
      });
      bindings = (record { exprs = ([]); rules = (record { bits = 0 }); mentions = ([]) });
    }) ∷ [])

abbrev pub bodies : List (List bound.Line)
bodies = body_0 ∷ body_1 ∷ []

abbrev pub program : bound.Program
program = record { declarations = declarations; bodies = bodies }

abbrev pub quiet : List (List Bool)
quiet = ((false ∷ []) ∷ ([]) ∷ [])

abbrev pub lows : List (VarId × ℤ × ℤ)
lows = ([])

abbrev pub clean : List Bool
clean = (true ∷ true ∷ [])

abbrev pub written : net.Project
written = (record {
  library = false;
  main = (Some (codes "Main1"));
  note = None;
  modules = ((record {
    name = (codes "Main1");
    class = false;
    members = (
        (net.proc (record {
          head = (net.function net_visible.Public (codes "Say") ((record {
            passing = net_passing.Value;
            name
                = (codes "n");
            ty = net_types.integer;
          }) ∷ []) net_types.integer);
          prologue = ([]);
          lines = (
              (net.call (net.path ((codes "UpgradeSupport") ∷ (codes "PrintLine") ∷ [])) (net.next_exp (net.binary net_bin.Concat (net.lit
              (net.str (codes "say"))) (net.call_of (net.path ((codes "UpgradeSupport") ∷ (codes "PrintNum") ∷ [])) (net.next_exp (net.cast
              cast.CDec (net.path ((codes "n") ∷ []))) net.no_exps))) net.no_exps)) ∷
              (net.assign (net.path ((codes "Say") ∷ [])) (net.path ((codes "n") ∷ []))) ∷ []);
          close = close.EndFunction;
        })) ∷
        (net.proc (record {
          head = (net.sub net_visible.Public (codes "Main") ([]));
          prologue = ([]);
          lines = (
              (net.select (net.call_of (net.path ((codes "Say") ∷ [])) (net.next_exp (net.lit (net.integer (pos 2) false)) net.no_exps)))
              ∷
              (net.case_line ((net.case_value (net.call_of (net.path ((codes "Say") ∷ [])) (net.next_exp (net.lit (net.integer (pos
              1) false)) net.no_exps))) ∷ (net.case_value (net.call_of (net.path ((codes "Say") ∷ [])) (net.next_exp (net.lit (net.integer
              (pos 2) false)) net.no_exps))) ∷ (net.case_value (net.call_of (net.path ((codes "Say") ∷ [])) (net.next_exp (net.lit (net.integer
              (pos 3) false)) net.no_exps))) ∷ [])) ∷
              (net.call (net.path ((codes "UpgradeSupport") ∷ (codes "PrintLine") ∷ [])) (net.next_exp (net.lit (net.str (codes "found")))
              net.no_exps)) ∷
              (net.case_line ((net.case_value (net.call_of (net.path ((codes "Say") ∷ [])) (net.next_exp (net.lit (net.integer (pos
              4) false)) net.no_exps))) ∷ [])) ∷
              (net.call (net.path ((codes "UpgradeSupport") ∷ (codes "PrintLine") ∷ [])) (net.next_exp (net.lit (net.str (codes "never")))
              net.no_exps)) ∷
              net.end_select ∷
              (net.select (net.lit (net.integer (pos 5) false))) ∷
              (net.case_line ((net.case_range (net.call_of (net.path ((codes "Say") ∷ [])) (net.next_exp (net.lit (net.integer (pos
              6) false)) net.no_exps)) (net.call_of (net.path ((codes "Say") ∷ [])) (net.next_exp (net.lit (net.integer (pos 7) false))
              net.no_exps))) ∷ [])) ∷
              (net.call (net.path ((codes "UpgradeSupport") ∷ (codes "PrintLine") ∷ [])) (net.next_exp (net.lit (net.str (codes "never")))
              net.no_exps)) ∷
              (net.case_line ((net.case_range (net.call_of (net.path ((codes "Say") ∷ [])) (net.next_exp (net.lit (net.integer (pos
              4) false)) net.no_exps)) (net.call_of (net.path ((codes "Say") ∷ [])) (net.next_exp (net.lit (net.integer (pos 5) false))
              net.no_exps))) ∷ [])) ∷
              (net.call (net.path ((codes "UpgradeSupport") ∷ (codes "PrintLine") ∷ [])) (net.next_exp (net.lit (net.str (codes "range")))
              net.no_exps)) ∷
              net.end_select ∷ []);
          close = close.EndSub;
        })) ∷ []);
  }) ∷ []);
  support = (record {
    name = (codes "UpgradeSupport");
    class
        = false;
    members = (
        (net.proc (record {
          head = (net.sub net_visible.Public (codes "PrintLine") ((record {
            passing = net_passing.Value;
            name
                = (codes "s");
            ty = net_types.str;
          }) ∷ []));
          prologue = ([]);
          lines = (
              (net.call (net.path ((codes "System") ∷ (codes "Console") ∷ (codes "WriteLine") ∷ [])) (net.next_exp (net.path ((codes
              "s") ∷ [])) net.no_exps)) ∷ []);
          close = close.EndSub;
        })) ∷
        (net.proc (record {
          head = (net.function net_visible.Public (codes "CurText") ((record {
            passing = net_passing.Value;
            name = (codes "d");
            ty = net_types.decimal;
          }) ∷ []) net_types.str);
          prologue = ([]);
          lines = (
              (net.assign (net.path ((codes "CurText") ∷ [])) (net.call_of (net.path ((codes "d") ∷ (codes "ToString") ∷ [])) (net.next_exp
              (net.lit (net.str (codes "0.####"))) (net.next_exp (net.path ((codes "System") ∷ (codes "Globalization") ∷ (codes "CultureInfo")
              ∷ (codes "InvariantCulture") ∷ [])) net.no_exps)))) ∷ []);
          close = close.EndFunction;
        })) ∷
        (net.proc (record {
          head = (net.function net_visible.Public (codes "PrintNum") ((record {
            passing = net_passing.Value;
            name = (codes "d");
            ty = net_types.decimal;
          }) ∷ []) net_types.str);
          prologue = ([]);
          lines = (
              (net.if_head (net.binary net_bin.Less (net.path ((codes "d") ∷ [])) (net.lit (net.decimal (pos 0))))) ∷
              (net.assign (net.path ((codes "PrintNum") ∷ [])) (net.binary net_bin.Concat (net.call_of (net.path ((codes "CurText")
              ∷ [])) (net.next_exp (net.path ((codes "d") ∷ [])) net.no_exps)) (net.lit (net.str (codes " "))))) ∷
              net.else_line ∷
              (net.assign (net.path ((codes "PrintNum") ∷ [])) (net.binary net_bin.Concat (net.binary net_bin.Concat (net.lit (net.str
              (codes " "))) (net.call_of (net.path ((codes "CurText") ∷ [])) (net.next_exp (net.path ((codes "d") ∷ [])) net.no_exps)))
              (net.lit (net.str (codes " "))))) ∷
              net.end_if ∷ []);
          close = close.EndFunction;
        })) ∷ []);
  });
})

abbrev pub runnable : Runnable
runnable = runnable_of program quiet lows

said : ran runnable 1 2000 ≡ (
  line (codes "say 2 ")
      ++ line (codes "say 1 ")
      ++ line (codes "say 2 ")
      ++ line (codes "found")
      ++ line (codes "say 6 ")
      ++ line (codes "say 4 ")
      ++ line (codes "say 5 ")
      ++ line (codes "range"),
  ended,
)
unfolding digits
said = refl
