-- The program handlers-resume-forms, what it puts out and how it ends.
use Rattle.std.proofs.Common.{◌≡◌, refl, ◌++◌, List, ℤ, pos, Bool, true, false, [], ◌∷◌, codes, Some, None}
use Rattle.vb_tree.specs.declared.declared.VarId.{VarId}
use Rattle.bound_tree.specs.Tree as bound
use Rattle.net_tree.specs.Tree as net
use Rattle.net_tree.specs.Types as net_types
use Rattle.vb_tree.specs.BoundTree as types
use Rattle.vb_tree.specs.Tree as vb
use Rattle.vb_tree.specs.declared.expression.BinOp.TheVariants as bin
use Rattle.net_tree.specs.declared.expression.CastWord.TheVariants as cast
use Rattle.net_tree.specs.declared.declaration.NetClose.TheVariants as close
use Rattle.vb_tree.specs.declared.declared.ProcKind.TheVariants as kind
use Rattle.vb_tree.specs.declared.form_parts.Label6.TheVariants as label
use Rattle.vb_tree.specs.declared.form_parts.ExitKind.TheVariants as leaving
use Rattle.vb_tree.specs.declared.token.Literal6.TheVariants as literal
use Rattle.bound_tree.specs.declared.body.Mention.TheVariants as mention
use Rattle.bound_tree.specs.declared.declared.Named.TheVariants as named
use Rattle.net_tree.specs.declared.expression.NetBin.TheVariants as net_bin
use Rattle.net_tree.specs.declared.line.NetExit.TheVariants as net_exit
use Rattle.net_tree.specs.declared.line.NetLabel.TheVariants as net_label
use Rattle.net_tree.specs.declared.declaration.NetPassing.TheVariants as net_passing
use Rattle.net_tree.specs.declared.declaration.NetVisibility.TheVariants as net_visible
use Rattle.bound_tree.specs.declared.expression.Origin.TheVariants as origin
use Rattle.vb_tree.specs.declared.declared.Owner.TheVariants as owner
use Rattle.vb_tree.specs.declared.project.ProjectKind.TheVariants as project_kind
use Rattle.bound_tree.specs.declared.declared.Scope.TheVariants as scope
use Rattle.vb_tree.specs.declared.token.Suffix.TheVariants as suffix
use Rattle.vb_tree.specs.declared.value.Value6.TheVariants as value
use Rattle.vb_tree.specs.declared.form_parts.VarWord.TheVariants as var
use Rattle.vb_tree.specs.declared.form_parts.Visibility.TheVariants as visible
use Rattle.std.specs.Fmt.{digits}
use Rattle.example_runs.proofs.Said.{ended, line, ran, ran_written, runnable_of}
use Rattle.vb6_run.specs.Runnables.{Runnable}

abbrev pub project : vb.Project
project = (record {
  file = (record {
    kind = project_kind.Exe;
    startup = (Some (3, (codes "Sub Main")));
    entries = ((record
        { line = 2; class = false; name = (codes "Main1"); file = (codes "Main1.bas") }) ∷ []);
    dropped = ([]);
  });
  modules = ((record {
    file = 1;
    name = (codes "Main1");
    class = false;
    members = (
        (vb.proc (record {
          place = (record { file = 1; line = 1 });
          text = (codes "Sub Main()");
          form = (vb.sub_head (record {
            visibility = None;
            name = (codes "Main");
            suffix = suffix.Absent;
            params = ([]);
          }));
        }) (vb.next_node
        (vb.line (record {
          place = (record { file = 1; line = 2 });
          text = (codes "Dim n As Long, tries As Long");
          form = (vb.variables
              var.Dim ((record {
                name = (codes "n");
                suffix = suffix.Absent;
                bounds = None;
                auto = false;
                ty = (Some (vb.named (codes
                    "Long")));
              }) ∷ (record {
                name = (codes "tries");
                suffix = suffix.Absent;
                bounds = None;
                auto = false;
                ty = (Some (vb.named
                    (codes "Long")));
              }) ∷ []));
        })) (vb.next_node
        (vb.line (record {
          place = (record { file = 1; line = 3 });
          text = (codes "On Error GoTo Fail");
          form = (vb.on_error_goto
              (label.Word (codes "Fail")));
        })) (vb.next_node
        (vb.line (record {
          place = (record { file = 1; line = 4 });
          text = (68 ∷ 101 ∷ 98 ∷ 117 ∷ 103 ∷ 46 ∷ 80 ∷ 114 ∷ 105
              ∷ 110 ∷ 116 ∷ 32 ∷ 49 ∷ 48 ∷ 32 ∷ 92 ∷ 32 ∷ 110 ∷ []);
          form = (vb.debug_print ((vb.binary bin.IntDiv (vb.lit (literal.Int
              (pos 10) false)) (vb.word (codes "n") suffix.Absent)) ∷ []) false);
        })) (vb.next_node
        (vb.line (record {
          place = (record { file = 1; line = 5 });
          text = (68 ∷ 101 ∷ 98 ∷ 117 ∷ 103 ∷ 46 ∷ 80 ∷ 114 ∷ 105
              ∷ 110 ∷ 116 ∷ 32 ∷ 34 ∷ 110 ∷ 101 ∷ 120 ∷ 116 ∷ 34 ∷ []);
          form = (vb.debug_print ((vb.lit (literal.Str (codes "next")))
              ∷ []) false);
        })) (vb.next_node
        (vb.line (record {
          place = (record { file = 1; line = 6 });
          text = (codes "Err.Raise 7");
          form = (vb.invoke (vb.member
              (vb.word (codes "Err") suffix.Absent) (codes "Raise")) (vb.next_arg None false (vb.given (vb.lit (literal.Int (pos 7)
              false))) vb.no_args));
        })) (vb.next_node
        (vb.line (record {
          place = (record { file = 1; line = 7 });
          text = (68 ∷ 101 ∷ 98 ∷ 117 ∷ 103 ∷ 46 ∷ 80 ∷ 114 ∷ 105
              ∷ 110 ∷ 116 ∷ 32 ∷ 34 ∷ 97 ∷ 102 ∷ 116 ∷ 101 ∷ 114 ∷ 34 ∷ []);
          form = (vb.debug_print ((vb.lit (literal.Str (codes "after")))
              ∷ []) false);
        })) (vb.next_node
        (vb.line (record {
          place = (record { file = 1; line = 8 });
          text = (codes "Done");
          form = (vb.label (label.Word (codes
              "Done")));
        })) (vb.next_node
        (vb.line (record {
          place = (record { file = 1; line = 9 });
          text = (68 ∷ 101 ∷ 98 ∷ 117 ∷ 103 ∷ 46 ∷ 80 ∷ 114 ∷ 105
              ∷ 110 ∷ 116 ∷ 32 ∷ 34 ∷ 100 ∷ 111 ∷ 110 ∷ 101 ∷ 34 ∷ 59 ∷ 32 ∷ 69 ∷ 114 ∷ 114 ∷ 46 ∷ 78 ∷ 117 ∷ 109 ∷ 98 ∷ 101 ∷ 114 ∷
              []);
          form = (vb.debug_print ((vb.lit (literal.Str (codes "done"))) ∷ (vb.member (vb.word (codes "Err") suffix.Absent)
              (codes "Number")) ∷ []) false);
        })) (vb.next_node
        (vb.line (record {
          place = (record { file = 1; line = 10 });
          text = (codes "Exit Sub");
          form = (vb.exit leaving.Sub);
        })) (vb.next_node
        (vb.line (record {
          place = (record { file = 1; line = 11 });
          text = (codes "Fail");
          form = (vb.label (label.Word (codes
              "Fail")));
        })) (vb.next_node
        (vb.line (record {
          place = (record { file = 1; line = 12 });
          text = (codes "tries = tries + 1");
          form = (vb.assign (vb.word
              (codes "tries") suffix.Absent) (vb.binary bin.Add (vb.word (codes "tries") suffix.Absent) (vb.lit (literal.Int (pos 1)
              false))));
        })) (vb.next_node
        (vb.line (record {
          place = (record { file = 1; line = 13 });
          text = (68 ∷ 101 ∷ 98 ∷ 117 ∷ 103 ∷ 46 ∷ 80 ∷ 114 ∷ 105
              ∷ 110 ∷ 116 ∷ 32 ∷ 34 ∷ 101 ∷ 114 ∷ 114 ∷ 111 ∷ 114 ∷ 34 ∷ 59 ∷ 32 ∷ 69 ∷ 114 ∷ 114 ∷ 46 ∷ 78 ∷ 117 ∷ 109 ∷ 98 ∷ 101 ∷
              114 ∷ []);
          form = (vb.debug_print ((vb.lit (literal.Str (codes "error"))) ∷ (vb.member (vb.word (codes "Err") suffix.Absent)
              (codes "Number")) ∷ []) false);
        })) (vb.next_node
        (vb.block (record {
          place = (record { file = 1; line = 14 });
          text = (codes "If tries = 1 Then");
          form = (vb.if_head
              (vb.binary bin.Equal (vb.word (codes "tries") suffix.Absent) (vb.lit (literal.Int (pos 1) false))));
        }) (vb.next_node
        (vb.line (record {
          place = (record { file = 1; line = 15 });
          text = (codes "n = 5");
          form = (vb.assign (vb.word (codes
              "n") suffix.Absent) (vb.lit (literal.Int (pos 5) false)));
        })) (vb.next_node
        (vb.line (record { place = (record { file = 1; line = 16 }); text = (codes "Resume"); form = vb.resume })) vb.no_nodes))
        (vb.next_middle (record {
          place = (record { file = 1; line = 17 });
          text = (codes "ElseIf tries = 2 Then");
          form = (vb.else_if
              (vb.binary bin.Equal (vb.word (codes "tries") suffix.Absent) (vb.lit (literal.Int (pos 2) false))));
        }) (vb.next_node
        (vb.line (record { place = (record { file = 1; line = 18 }); text = (codes "Resume Next"); form = vb.resume_next }))
        vb.no_nodes) vb.no_middles) (record {
          place = (record { file = 1; line = 19 });
          text = (codes "End If");
          form = vb.end_if;
        })) (vb.next_node
        (vb.line (record {
          place = (record { file = 1; line = 20 });
          text = (codes "Resume Done");
          form = (vb.resume_at (label.Word
              (codes "Done")));
        })) vb.no_nodes)))))))))))))) (record {
          place = (record { file = 1; line = 21 });
          text = (codes "End Sub");
          form = vb.end_sub;
        })) ∷ []);
    comments = ([]);
  }) ∷ []);
})

abbrev pub declarations : bound.Declarations
declarations = (record {
  project = project;
  names = (
      (record { name = (codes "Main"); scope = (scope.Public 1); named = (named.Proc (record { 0 = 0 })) }) ∷
      (record { name = (codes "n"); scope = (scope.Local (record { 0 = 0 })); named = (named.Var (record { 0 = 0 })) }) ∷
      (record { name = (codes "tries"); scope = (scope.Local (record { 0 = 0 })); named = (named.Var (record { 0 = 1 })) })
      ∷ []);
  vars = (
      (record {
        name = (codes "n");
        place = (record { file = 1; line = 2 });
        statement = 1;
        owner = (owner.Local (record {
          0
              = 0;
        }));
        ty = types.long;
        named = types.long;
        qualified = false;
        lettered = None;
        bounds = ([]);
        auto = false;
        preset
            = None;
      }) ∷
      (record {
        name = (codes "tries");
        place = (record { file = 1; line = 2 });
        statement = 1;
        owner = (owner.Local (record
            { 0 = 0 }));
        ty = types.long;
        named = types.long;
        qualified = false;
        lettered = None;
        bounds = ([]);
        auto = false;
        preset
            = None;
      }) ∷ []);
  consts = ([]);
  procs = (
      (record {
        name = (codes "Main");
        place = (record { file = 1; line = 1 });
        module_number = 1;
        kind = kind.Sub;
        visibility
            = visible.Public;
        params = ([]);
        result = types.nothing;
        answer = None;
        first = (record { 0 = 0 });
      }) ∷ []);
  types = ([]);
  enums = ([]);
  defaults = ([]);
})

abbrev pub body_0 : List bound.Line
body_0 = (
    (record {
      source = (record {
        place = (record { file = 1; line = 3 });
        text = (codes "On Error GoTo Fail");
        form = (vb.on_error_goto
            (label.Word (codes "Fail")));
      });
      bindings = (record { exprs = ([]); rules = (record { bits = 0 }); mentions = ([]) });
    }) ∷
    (record {
      source = (record {
        place = (record { file = 1; line = 4 });
        text = (68 ∷ 101 ∷ 98 ∷ 117 ∷ 103 ∷ 46 ∷ 80 ∷ 114
            ∷ 105 ∷ 110 ∷ 116 ∷ 32 ∷ 49 ∷ 48 ∷ 32 ∷ 92 ∷ 32 ∷ 110 ∷ []);
        form = (vb.debug_print ((vb.binary bin.IntDiv (vb.lit (literal.Int
            (pos 10) false)) (vb.word (codes "n") suffix.Absent)) ∷ []) false);
      });
      bindings = (record {
        exprs = ((bound.typed types.long
            (bound.binary bin.IntDiv (bound.typed types.long (bound.convert types.long (bound.typed types.integer (bound.constant
            (value.Int (pos 10)) origin.Literal)))) (bound.typed types.long (bound.variable (record { 0 = 0 }) false)))) ∷ []);
        rules
            = (record { bits = 0 });
        mentions = ((mention.Var (record { 0 = 0 })) ∷ []);
      });
    }) ∷
    (record {
      source = (record {
        place = (record { file = 1; line = 5 });
        text = (68 ∷ 101 ∷ 98 ∷ 117 ∷ 103 ∷ 46 ∷ 80 ∷ 114
            ∷ 105 ∷ 110 ∷ 116 ∷ 32 ∷ 34 ∷ 110 ∷ 101 ∷ 120 ∷ 116 ∷ 34 ∷ []);
        form = (vb.debug_print ((vb.lit (literal.Str (codes "next")))
            ∷ []) false);
      });
      bindings = (record {
        exprs = ((bound.typed types.str (bound.constant (value.Str (codes "next")) origin.Literal))
            ∷ []);
        rules = (record { bits = 0 });
        mentions = ([]);
      });
    }) ∷
    (record {
      source = (record {
        place = (record { file = 1; line = 6 });
        text = (codes "Err.Raise 7");
        form = (vb.invoke
            (vb.member (vb.word (codes "Err") suffix.Absent) (codes "Raise")) (vb.next_arg None false (vb.given (vb.lit (literal.Int
            (pos 7) false))) vb.no_args));
      });
      bindings = (record {
        exprs = ((bound.typed types.nothing (bound.err_raise (bound.typed
            types.long (bound.convert types.long (bound.typed types.integer (bound.constant (value.Int (pos 7)) origin.Literal))))))
            ∷ []);
        rules = (record { bits = 0 });
        mentions = ([]);
      });
    }) ∷
    (record {
      source = (record {
        place = (record { file = 1; line = 7 });
        text = (68 ∷ 101 ∷ 98 ∷ 117 ∷ 103 ∷ 46 ∷ 80 ∷ 114
            ∷ 105 ∷ 110 ∷ 116 ∷ 32 ∷ 34 ∷ 97 ∷ 102 ∷ 116 ∷ 101 ∷ 114 ∷ 34 ∷ []);
        form = (vb.debug_print ((vb.lit (literal.Str (codes
            "after"))) ∷ []) false);
      });
      bindings = (record {
        exprs = ((bound.typed types.str (bound.constant (value.Str (codes "after"))
            origin.Literal)) ∷ []);
        rules = (record { bits = 0 });
        mentions = ([]);
      });
    }) ∷
    (record {
      source = (record {
        place = (record { file = 1; line = 8 });
        text = (codes "Done");
        form = (vb.label (label.Word
            (codes "Done")));
      });
      bindings = (record { exprs = ([]); rules = (record { bits = 0 }); mentions = ([]) });
    }) ∷
    (record {
      source = (record {
        place = (record { file = 1; line = 9 });
        text = (68 ∷ 101 ∷ 98 ∷ 117 ∷ 103 ∷ 46 ∷ 80 ∷ 114
            ∷ 105 ∷ 110 ∷ 116 ∷ 32 ∷ 34 ∷ 100 ∷ 111 ∷ 110 ∷ 101 ∷ 34 ∷ 59 ∷ 32 ∷ 69 ∷ 114 ∷ 114 ∷ 46 ∷ 78 ∷ 117 ∷ 109 ∷ 98 ∷ 101 ∷
            114 ∷ []);
        form = (vb.debug_print ((vb.lit (literal.Str (codes "done"))) ∷ (vb.member (vb.word (codes "Err") suffix.Absent)
            (codes "Number")) ∷ []) false);
      });
      bindings = (record {
        exprs = ((bound.typed types.str (bound.constant (value.Str (codes
            "done")) origin.Literal)) ∷ (bound.typed types.long bound.err_number) ∷ []);
        rules = (record { bits = 0 });
        mentions =
            ([]);
      });
    }) ∷
    (record {
      source = (record {
        place = (record { file = 1; line = 10 });
        text = (codes "Exit Sub");
        form = (vb.exit leaving.Sub);
      });
      bindings = (record { exprs = ([]); rules = (record { bits = 0 }); mentions = ([]) });
    }) ∷
    (record {
      source = (record {
        place = (record { file = 1; line = 11 });
        text = (codes "Fail");
        form = (vb.label (label.Word
            (codes "Fail")));
      });
      bindings = (record { exprs = ([]); rules = (record { bits = 0 }); mentions = ([]) });
    }) ∷
    (record {
      source = (record {
        place = (record { file = 1; line = 12 });
        text = (codes "tries = tries + 1");
        form = (vb.assign
            (vb.word (codes "tries") suffix.Absent) (vb.binary bin.Add (vb.word (codes "tries") suffix.Absent) (vb.lit (literal.Int
            (pos 1) false))));
      });
      bindings = (record {
        exprs = ((bound.typed types.long (bound.variable (record { 0 = 1 }) false))
            ∷ (bound.typed types.long (bound.binary bin.Add (bound.typed types.long (bound.variable (record { 0 = 1 }) false)) (bound.typed
            types.long (bound.convert types.long (bound.typed types.integer (bound.constant (value.Int (pos 1)) origin.Literal))))))
            ∷ []);
        rules = (record { bits = 0 });
        mentions = ((mention.Var (record { 0 = 1 })) ∷ (mention.Var (record { 0 = 1 }))
            ∷ []);
      });
    }) ∷
    (record {
      source = (record {
        place = (record { file = 1; line = 13 });
        text = (68 ∷ 101 ∷ 98 ∷ 117 ∷ 103 ∷ 46 ∷ 80 ∷ 114
            ∷ 105 ∷ 110 ∷ 116 ∷ 32 ∷ 34 ∷ 101 ∷ 114 ∷ 114 ∷ 111 ∷ 114 ∷ 34 ∷ 59 ∷ 32 ∷ 69 ∷ 114 ∷ 114 ∷ 46 ∷ 78 ∷ 117 ∷ 109 ∷ 98 ∷
            101 ∷ 114 ∷ []);
        form = (vb.debug_print ((vb.lit (literal.Str (codes "error"))) ∷ (vb.member (vb.word (codes "Err") suffix.Absent)
            (codes "Number")) ∷ []) false);
      });
      bindings = (record {
        exprs = ((bound.typed types.str (bound.constant (value.Str (codes
            "error")) origin.Literal)) ∷ (bound.typed types.long bound.err_number) ∷ []);
        rules = (record { bits = 0 });
        mentions
            = ([]);
      });
    }) ∷
    (record {
      source = (record {
        place = (record { file = 1; line = 14 });
        text = (codes "If tries = 1 Then");
        form = (vb.if_head
            (vb.binary bin.Equal (vb.word (codes "tries") suffix.Absent) (vb.lit (literal.Int (pos 1) false))));
      });
      bindings = (record {
        exprs = ((bound.typed types.boolean (bound.binary bin.Equal (bound.typed types.long (bound.variable (record {
          0 = 1;
        }) false)) (bound.typed types.long (bound.convert types.long (bound.typed types.integer (bound.constant (value.Int (pos
            1)) origin.Literal)))))) ∷ []);
        rules = (record { bits = 0 });
        mentions = ((mention.Var (record { 0 = 1 })) ∷ []);
      });
    })
    ∷
    (record {
      source = (record {
        place = (record { file = 1; line = 15 });
        text = (codes "n = 5");
        form = (vb.assign (vb.word
            (codes "n") suffix.Absent) (vb.lit (literal.Int (pos 5) false)));
      });
      bindings = (record {
        exprs = ((bound.typed types.long
            (bound.variable (record { 0 = 0 }) false)) ∷ (bound.typed types.long (bound.convert types.long (bound.typed types.integer
            (bound.constant (value.Int (pos 5)) origin.Literal)))) ∷ []);
        rules = (record { bits = 0 });
        mentions = ((mention.Var
            (record { 0 = 0 })) ∷ []);
      });
    }) ∷
    (record {
      source = (record { place = (record { file = 1; line = 16 }); text = (codes "Resume"); form = vb.resume });
      bindings
          = (record { exprs = ([]); rules = (record { bits = 0 }); mentions = ([]) });
    }) ∷
    (record {
      source = (record {
        place = (record { file = 1; line = 17 });
        text = (codes "ElseIf tries = 2 Then");
        form =
            (vb.else_if (vb.binary bin.Equal (vb.word (codes "tries") suffix.Absent) (vb.lit (literal.Int (pos 2) false))));
      });
      bindings
          = (record {
            exprs = ((bound.typed types.boolean (bound.binary bin.Equal (bound.typed types.long (bound.variable (record
                { 0 = 1 }) false)) (bound.typed types.long (bound.convert types.long (bound.typed types.integer (bound.constant (value.Int
                (pos 2)) origin.Literal)))))) ∷ []);
            rules = (record { bits = 0 });
            mentions = ((mention.Var (record { 0 = 1 })) ∷ []);
          });
    }) ∷
    (record {
      source = (record {
        place = (record { file = 1; line = 18 });
        text = (codes "Resume Next");
        form = vb.resume_next;
      });
      bindings = (record { exprs = ([]); rules = (record { bits = 0 }); mentions = ([]) });
    }) ∷
    (record {
      source = (record { place = (record { file = 1; line = 19 }); text = (codes "End If"); form = vb.end_if });
      bindings
          = (record { exprs = ([]); rules = (record { bits = 0 }); mentions = ([]) });
    }) ∷
    (record {
      source = (record {
        place = (record { file = 1; line = 20 });
        text = (codes "Resume Done");
        form = (vb.resume_at
            (label.Word (codes "Done")));
      });
      bindings = (record { exprs = ([]); rules = (record { bits = 0 }); mentions = ([]) });
    }) ∷ [])

abbrev pub bodies : List (List bound.Line)
bodies = body_0 ∷ []

abbrev pub program : bound.Program
program = record { declarations = declarations; bodies = bodies }

abbrev pub quiet : List (List Bool)
quiet = (([]) ∷ [])

abbrev pub lows : List (VarId × ℤ × ℤ)
lows = ([])

abbrev pub clean : List Bool
clean = (true ∷ [])

abbrev pub written : net.Project
written = (record {
  library = false;
  main = (Some (codes "Main1"));
  note = None;
  modules = ((record {
    name = (codes "Main1");
    class = false;
    members = (
        (net.proc (record {
          head = (net.sub net_visible.Public (codes "Main") ([]));
          prologue = (
              (net.local (record { name = (codes "n"); ty = net_types.integer; value = None })) ∷
              (net.local (record { name = (codes "tries"); ty = net_types.integer; value = None })) ∷ []);
          lines = (
              (net.on_error_goto (net_label.Word (codes "Fail"))) ∷
              (net.call (net.path ((codes "UpgradeSupport") ∷ (codes "PrintLine") ∷ [])) (net.next_exp (net.call_of (net.path ((codes
              "UpgradeSupport") ∷ (codes "PrintNum") ∷ [])) (net.next_exp (net.cast cast.CDec (net.binary net_bin.IntDiv (net.lit (net.integer
              (pos 10) false)) (net.path ((codes "n") ∷ [])))) net.no_exps)) net.no_exps)) ∷
              (net.call (net.path ((codes "UpgradeSupport") ∷ (codes "PrintLine") ∷ [])) (net.next_exp (net.lit (net.str (codes "next")))
              net.no_exps)) ∷
              (net.call (net.path ((codes "UpgradeSupport") ∷ (codes "Raise") ∷ [])) (net.next_exp (net.lit (net.integer (pos 7) false))
              net.no_exps)) ∷
              (net.call (net.path ((codes "UpgradeSupport") ∷ (codes "PrintLine") ∷ [])) (net.next_exp (net.lit (net.str (codes "after")))
              net.no_exps)) ∷
              (net.label (net_label.Word (codes "Done"))) ∷
              (net.call (net.path ((codes "UpgradeSupport") ∷ (codes "PrintLine") ∷ [])) (net.next_exp (net.binary net_bin.Concat (net.lit
              (net.str (codes "done"))) (net.call_of (net.path ((codes "UpgradeSupport") ∷ (codes "PrintNum") ∷ [])) (net.next_exp (net.cast
              cast.CDec (net.call_of (net.path ((codes "UpgradeSupport") ∷ (codes "ErrNumber") ∷ [])) net.no_exps)) net.no_exps))) net.no_exps))
              ∷
              (net.exit net_exit.Sub) ∷
              (net.label (net_label.Word (codes "Fail"))) ∷
              (net.assign (net.path ((codes "tries") ∷ [])) (net.binary net_bin.Add (net.path ((codes "tries") ∷ [])) (net.lit (net.integer
              (pos 1) false)))) ∷
              (net.call (net.path ((codes "UpgradeSupport") ∷ (codes "PrintLine") ∷ [])) (net.next_exp (net.binary net_bin.Concat (net.lit
              (net.str (codes "error"))) (net.call_of (net.path ((codes "UpgradeSupport") ∷ (codes "PrintNum") ∷ [])) (net.next_exp
              (net.cast cast.CDec (net.call_of (net.path ((codes "UpgradeSupport") ∷ (codes "ErrNumber") ∷ [])) net.no_exps)) net.no_exps)))
              net.no_exps)) ∷
              (net.if_head (net.binary net_bin.Equal (net.path ((codes "tries") ∷ [])) (net.lit (net.integer (pos 1) false)))) ∷
              (net.assign (net.path ((codes "n") ∷ [])) (net.lit (net.integer (pos 5) false))) ∷
              net.resume ∷
              (net.else_if (net.binary net_bin.Equal (net.path ((codes "tries") ∷ [])) (net.lit (net.integer (pos 2) false)))) ∷
              net.resume_next ∷
              net.end_if ∷
              (net.resume_at (net_label.Word (codes "Done"))) ∷ []);
          close = close.EndSub;
        })) ∷ []);
  }) ∷ []);
  support = (record {
    name
        = (codes "UpgradeSupport");
    class = false;
    members = (
        (net.proc (record {
          head = (net.sub net_visible.Public (codes "PrintLine") ((record {
            passing = net_passing.Value;
            name
                = (codes "s");
            ty = net_types.str;
          }) ∷ []));
          prologue = ([]);
          lines = (
              (net.call (net.path ((codes "System") ∷ (codes "Console") ∷ (codes "WriteLine") ∷ [])) (net.next_exp (net.path ((codes
              "s") ∷ [])) net.no_exps)) ∷ []);
          close = close.EndSub;
        })) ∷
        (net.proc (record {
          head = (net.function net_visible.Public (codes "CurText") ((record {
            passing = net_passing.Value;
            name = (codes "d");
            ty = net_types.decimal;
          }) ∷ []) net_types.str);
          prologue = ([]);
          lines = (
              (net.assign (net.path ((codes "CurText") ∷ [])) (net.call_of (net.path ((codes "d") ∷ (codes "ToString") ∷ [])) (net.next_exp
              (net.lit (net.str (codes "0.####"))) (net.next_exp (net.path ((codes "System") ∷ (codes "Globalization") ∷ (codes "CultureInfo")
              ∷ (codes "InvariantCulture") ∷ [])) net.no_exps)))) ∷ []);
          close = close.EndFunction;
        })) ∷
        (net.proc (record {
          head = (net.function net_visible.Public (codes "PrintNum") ((record {
            passing = net_passing.Value;
            name = (codes "d");
            ty = net_types.decimal;
          }) ∷ []) net_types.str);
          prologue = ([]);
          lines = (
              (net.if_head (net.binary net_bin.Less (net.path ((codes "d") ∷ [])) (net.lit (net.decimal (pos 0))))) ∷
              (net.assign (net.path ((codes "PrintNum") ∷ [])) (net.binary net_bin.Concat (net.call_of (net.path ((codes "CurText")
              ∷ [])) (net.next_exp (net.path ((codes "d") ∷ [])) net.no_exps)) (net.lit (net.str (codes " "))))) ∷
              net.else_line ∷
              (net.assign (net.path ((codes "PrintNum") ∷ [])) (net.binary net_bin.Concat (net.binary net_bin.Concat (net.lit (net.str
              (codes " "))) (net.call_of (net.path ((codes "CurText") ∷ [])) (net.next_exp (net.path ((codes "d") ∷ [])) net.no_exps)))
              (net.lit (net.str (codes " "))))) ∷
              net.end_if ∷ []);
          close = close.EndFunction;
        })) ∷
        (net.proc (record {
          head = (net.function net_visible.Public (codes "ErrNumber") ([]) net_types.integer);
          prologue = ([]);
          lines = (
              (net.assign (net.path ((codes "ErrNumber") ∷ [])) (net.dot (net.call_of (net.path ((codes "Microsoft") ∷ (codes "VisualBasic")
              ∷ (codes "Information") ∷ (codes "Err") ∷ [])) net.no_exps) (codes "Number"))) ∷ []);
          close = close.EndFunction;
        })) ∷
        (net.proc (record {
          head = (net.sub net_visible.Public (codes "Raise") ((record {
            passing = net_passing.Value;
            name =
                (codes "n");
            ty = net_types.integer;
          }) ∷ []));
          prologue = ([]);
          lines = (
              (net.call (net.dot (net.call_of (net.path ((codes "Microsoft") ∷ (codes "VisualBasic") ∷ (codes "Information") ∷ (codes
              "Err") ∷ [])) net.no_exps) (codes "Raise")) (net.next_exp (net.path ((codes "n") ∷ [])) net.no_exps)) ∷ []);
          close = close.EndSub;
        })) ∷ []);
  });
})

abbrev pub runnable : Runnable
runnable = runnable_of program quiet lows

said : ran runnable 0 2000 ≡ (
  line (codes "error 11 ")
      ++ line (codes " 2 ")
      ++ line (codes "next")
      ++ line (codes "error 7 ")
      ++ line (codes "after")
      ++ line (codes "done 0 "),
  ended,
)
unfolding digits
said = refl

said_written : ran_written written 0 2000 ≡ (
  line (codes "error 11 ")
      ++ line (codes " 2 ")
      ++ line (codes "next")
      ++ line (codes "error 7 ")
      ++ line (codes "after")
      ++ line (codes "done 0 "),
  ended,
)
unfolding digits
said_written = refl
