-- The program steps-of-blocks-10, what it puts out and how it ends.
use Rattle.std.proofs.Common.{◌≡◌, refl, ◌++◌, List, ℤ, pos, Bool, true, false, [], ◌∷◌, codes, Some, None}
use Rattle.vb_tree.specs.declared.declared.VarId.{VarId}
use Rattle.bound_tree.specs.Tree as bound
use Rattle.net_tree.specs.Tree as net
use Rattle.net_tree.specs.Types as net_types
use Rattle.vb_tree.specs.BoundTree as types
use Rattle.vb_tree.specs.Tree as vb
use Rattle.vb_tree.specs.declared.expression.BinOp.TheVariants as bin
use Rattle.net_tree.specs.declared.declaration.NetClose.TheVariants as close
use Rattle.vb_tree.specs.declared.declared.ProcKind.TheVariants as kind
use Rattle.vb_tree.specs.declared.token.Literal6.TheVariants as literal
use Rattle.bound_tree.specs.declared.body.Mention.TheVariants as mention
use Rattle.bound_tree.specs.declared.declared.Named.TheVariants as named
use Rattle.net_tree.specs.declared.expression.NetBin.TheVariants as net_bin
use Rattle.net_tree.specs.declared.declaration.NetPassing.TheVariants as net_passing
use Rattle.net_tree.specs.declared.declaration.NetVisibility.TheVariants as net_visible
use Rattle.bound_tree.specs.declared.expression.Origin.TheVariants as origin
use Rattle.vb_tree.specs.declared.declared.Owner.TheVariants as owner
use Rattle.vb_tree.specs.declared.project.ProjectKind.TheVariants as project_kind
use Rattle.bound_tree.specs.declared.declared.Scope.TheVariants as scope
use Rattle.vb_tree.specs.declared.token.Suffix.TheVariants as suffix
use Rattle.vb_tree.specs.declared.value.Value6.TheVariants as value
use Rattle.vb_tree.specs.declared.form_parts.VarWord.TheVariants as var
use Rattle.vb_tree.specs.declared.form_parts.Visibility.TheVariants as visible
use Rattle.std.specs.Fmt.{digits}
use Rattle.example_runs.proofs.Said.{line, ran, ran_written, runnable_of, steps_spent}
use Rattle.vb6_run.specs.Runnables.{Runnable}

abbrev pub project : vb.Project
project = (record {
  file = (record {
    kind = project_kind.Exe;
    startup = (Some (3, (codes "Sub Main")));
    entries = ((record
        { line = 2; class = false; name = (codes "Main1"); file = (codes "Main1.bas") }) ∷ []);
    dropped = ([]);
  });
  modules = ((record {
    file = 1;
    name = (codes "Main1");
    class = false;
    members = (
        (vb.proc (record {
          place = (record { file = 1; line = 1 });
          text = (codes "Sub Main()");
          form = (vb.sub_head (record {
            visibility = None;
            name = (codes "Main");
            suffix = suffix.Absent;
            params = ([]);
          }));
        }) (vb.next_node
        (vb.line (record {
          place = (record { file = 1; line = 2 });
          text = (codes "Dim n As Long");
          form = (vb.variables var.Dim
              ((record {
                name = (codes "n");
                suffix = suffix.Absent;
                bounds = None;
                auto = false;
                ty = (Some (vb.named (codes "Long")));
              }) ∷ []));
        })) (vb.next_node
        (vb.block (record {
          place = (record { file = 1; line = 3 });
          text = (codes "If n = 1 Then");
          form = (vb.if_head (vb.binary
              bin.Equal (vb.word (codes "n") suffix.Absent) (vb.lit (literal.Int (pos 1) false))));
        }) (vb.next_node
        (vb.line (record {
          place = (record { file = 1; line = 4 });
          text = (68 ∷ 101 ∷ 98 ∷ 117 ∷ 103 ∷ 46 ∷ 80 ∷ 114 ∷ 105
              ∷ 110 ∷ 116 ∷ 32 ∷ 34 ∷ 110 ∷ 101 ∷ 118 ∷ 101 ∷ 114 ∷ 34 ∷ []);
          form = (vb.debug_print ((vb.lit (literal.Str (codes "never")))
              ∷ []) false);
        })) vb.no_nodes) (vb.next_middle (record {
          place = (record { file = 1; line = 5 });
          text = (codes "ElseIf n = 0 Then");
          form = (vb.else_if (vb.binary bin.Equal (vb.word (codes "n") suffix.Absent) (vb.lit (literal.Int (pos 0) false))));
        })
        (vb.next_node
        (vb.line (record {
          place = (record { file = 1; line = 6 });
          text = (68 ∷ 101 ∷ 98 ∷ 117 ∷ 103 ∷ 46 ∷ 80 ∷ 114 ∷ 105
              ∷ 110 ∷ 116 ∷ 32 ∷ 34 ∷ 122 ∷ 101 ∷ 114 ∷ 111 ∷ 34 ∷ []);
          form = (vb.debug_print ((vb.lit (literal.Str (codes "zero")))
              ∷ []) false);
        })) vb.no_nodes) (vb.next_middle (record {
          place = (record { file = 1; line = 7 });
          text = (codes "Else");
          form = vb.else_line;
        }) (vb.next_node
        (vb.line (record {
          place = (record { file = 1; line = 8 });
          text = (68 ∷ 101 ∷ 98 ∷ 117 ∷ 103 ∷ 46 ∷ 80 ∷ 114 ∷ 105
              ∷ 110 ∷ 116 ∷ 32 ∷ 34 ∷ 101 ∷ 108 ∷ 115 ∷ 101 ∷ 34 ∷ []);
          form = (vb.debug_print ((vb.lit (literal.Str (codes "else")))
              ∷ []) false);
        })) vb.no_nodes) vb.no_middles)) (record {
          place = (record { file = 1; line = 9 });
          text = (codes "End If");
          form = vb.end_if;
        })) (vb.next_node
        (vb.block (record {
          place = (record { file = 1; line = 10 });
          text = (codes "Select Case n");
          form = (vb.select (vb.word
              (codes "n") suffix.Absent));
        }) vb.no_nodes (vb.next_middle (record {
          place = (record { file = 1; line = 11 });
          text =
              (codes "Case 5");
          form = (vb.case_line ((vb.case_value (vb.lit (literal.Int (pos 5) false))) ∷ []));
        }) (vb.next_node
        (vb.line (record {
          place = (record { file = 1; line = 12 });
          text = (68 ∷ 101 ∷ 98 ∷ 117 ∷ 103 ∷ 46 ∷ 80 ∷ 114 ∷ 105
              ∷ 110 ∷ 116 ∷ 32 ∷ 34 ∷ 102 ∷ 105 ∷ 118 ∷ 101 ∷ 34 ∷ []);
          form = (vb.debug_print ((vb.lit (literal.Str (codes "five")))
              ∷ []) false);
        })) vb.no_nodes) (vb.next_middle (record {
          place = (record { file = 1; line = 13 });
          text = (codes "Case 0");
          form = (vb.case_line ((vb.case_value (vb.lit (literal.Int (pos 0) false))) ∷ []));
        }) (vb.next_node
        (vb.line (record {
          place = (record { file = 1; line = 14 });
          text = (68 ∷ 101 ∷ 98 ∷ 117 ∷ 103 ∷ 46 ∷ 80 ∷ 114 ∷ 105
              ∷ 110 ∷ 116 ∷ 32 ∷ 34 ∷ 115 ∷ 101 ∷ 108 ∷ 101 ∷ 99 ∷ 116 ∷ 34 ∷ []);
          form = (vb.debug_print ((vb.lit (literal.Str (codes
              "select"))) ∷ []) false);
        })) vb.no_nodes) vb.no_middles)) (record {
          place = (record { file = 1; line = 15 });
          text = (codes
              "End Select");
          form = vb.end_select;
        })) (vb.next_node
        (vb.block (record {
          place = (record { file = 1; line = 16 });
          text = (codes "While n < 1");
          form = (vb.while_head (vb.binary
              bin.Less (vb.word (codes "n") suffix.Absent) (vb.lit (literal.Int (pos 1) false))));
        }) (vb.next_node
        (vb.line (record {
          place = (record { file = 1; line = 17 });
          text = (codes "n = n + 1");
          form = (vb.assign (vb.word
              (codes "n") suffix.Absent) (vb.binary bin.Add (vb.word (codes "n") suffix.Absent) (vb.lit (literal.Int (pos 1) false))));
        })) vb.no_nodes) vb.no_middles (record {
          place = (record { file = 1; line = 18 });
          text = (codes "Wend");
          form = vb.wend;
        })) (vb.next_node
        (vb.line (record {
          place = (record { file = 1; line = 19 });
          text = (68 ∷ 101 ∷ 98 ∷ 117 ∷ 103 ∷ 46 ∷ 80 ∷ 114 ∷ 105
              ∷ 110 ∷ 116 ∷ 32 ∷ 34 ∷ 101 ∷ 110 ∷ 100 ∷ 34 ∷ []);
          form = (vb.debug_print ((vb.lit (literal.Str (codes "end"))) ∷ [])
              false);
        })) vb.no_nodes))))) (record {
          place = (record { file = 1; line = 20 });
          text = (codes "End Sub");
          form = vb.end_sub;
        })) ∷ []);
    comments = ([]);
  }) ∷ []);
})

abbrev pub declarations : bound.Declarations
declarations = (record {
  project = project;
  names = (
      (record { name = (codes "Main"); scope = (scope.Public 1); named = (named.Proc (record { 0 = 0 })) }) ∷
      (record { name = (codes "n"); scope = (scope.Local (record { 0 = 0 })); named = (named.Var (record { 0 = 0 })) }) ∷ []);
  vars = (
      (record {
        name = (codes "n");
        place = (record { file = 1; line = 2 });
        statement = 1;
        owner = (owner.Local (record {
          0
              = 0;
        }));
        ty = types.long;
        named = types.long;
        qualified = false;
        lettered = None;
        bounds = ([]);
        auto = false;
        preset
            = None;
      }) ∷ []);
  consts = ([]);
  procs = (
      (record {
        name = (codes "Main");
        place = (record { file = 1; line = 1 });
        module_number = 1;
        kind = kind.Sub;
        visibility
            = visible.Public;
        params = ([]);
        result = types.nothing;
        answer = None;
        first = (record { 0 = 0 });
      }) ∷ []);
  types = ([]);
  enums = ([]);
  defaults = ([]);
})

abbrev pub body_0 : List bound.Line
body_0 = (
    (record {
      source = (record {
        place = (record { file = 1; line = 3 });
        text = (codes "If n = 1 Then");
        form = (vb.if_head
            (vb.binary bin.Equal (vb.word (codes "n") suffix.Absent) (vb.lit (literal.Int (pos 1) false))));
      });
      bindings = (record {
        exprs = ((bound.typed types.boolean (bound.binary bin.Equal (bound.typed types.long (bound.variable (record {
          0 = 0;
        }) false)) (bound.typed types.long (bound.convert types.long (bound.typed types.integer (bound.constant (value.Int (pos
            1)) origin.Literal)))))) ∷ []);
        rules = (record { bits = 0 });
        mentions = ((mention.Var (record { 0 = 0 })) ∷ []);
      });
    })
    ∷
    (record {
      source = (record {
        place = (record { file = 1; line = 4 });
        text = (68 ∷ 101 ∷ 98 ∷ 117 ∷ 103 ∷ 46 ∷ 80 ∷ 114
            ∷ 105 ∷ 110 ∷ 116 ∷ 32 ∷ 34 ∷ 110 ∷ 101 ∷ 118 ∷ 101 ∷ 114 ∷ 34 ∷ []);
        form = (vb.debug_print ((vb.lit (literal.Str (codes
            "never"))) ∷ []) false);
      });
      bindings = (record {
        exprs = ((bound.typed types.str (bound.constant (value.Str (codes "never"))
            origin.Literal)) ∷ []);
        rules = (record { bits = 0 });
        mentions = ([]);
      });
    }) ∷
    (record {
      source = (record {
        place = (record { file = 1; line = 5 });
        text = (codes "ElseIf n = 0 Then");
        form = (vb.else_if
            (vb.binary bin.Equal (vb.word (codes "n") suffix.Absent) (vb.lit (literal.Int (pos 0) false))));
      });
      bindings = (record {
        exprs = ((bound.typed types.boolean (bound.binary bin.Equal (bound.typed types.long (bound.variable (record {
          0 = 0;
        }) false)) (bound.typed types.long (bound.convert types.long (bound.typed types.integer (bound.constant (value.Int (pos
            0)) origin.Literal)))))) ∷ []);
        rules = (record { bits = 0 });
        mentions = ((mention.Var (record { 0 = 0 })) ∷ []);
      });
    })
    ∷
    (record {
      source = (record {
        place = (record { file = 1; line = 6 });
        text = (68 ∷ 101 ∷ 98 ∷ 117 ∷ 103 ∷ 46 ∷ 80 ∷ 114
            ∷ 105 ∷ 110 ∷ 116 ∷ 32 ∷ 34 ∷ 122 ∷ 101 ∷ 114 ∷ 111 ∷ 34 ∷ []);
        form = (vb.debug_print ((vb.lit (literal.Str (codes "zero")))
            ∷ []) false);
      });
      bindings = (record {
        exprs = ((bound.typed types.str (bound.constant (value.Str (codes "zero")) origin.Literal))
            ∷ []);
        rules = (record { bits = 0 });
        mentions = ([]);
      });
    }) ∷
    (record {
      source = (record { place = (record { file = 1; line = 7 }); text = (codes "Else"); form = vb.else_line });
      bindings
          = (record { exprs = ([]); rules = (record { bits = 0 }); mentions = ([]) });
    }) ∷
    (record {
      source = (record {
        place = (record { file = 1; line = 8 });
        text = (68 ∷ 101 ∷ 98 ∷ 117 ∷ 103 ∷ 46 ∷ 80 ∷ 114
            ∷ 105 ∷ 110 ∷ 116 ∷ 32 ∷ 34 ∷ 101 ∷ 108 ∷ 115 ∷ 101 ∷ 34 ∷ []);
        form = (vb.debug_print ((vb.lit (literal.Str (codes "else")))
            ∷ []) false);
      });
      bindings = (record {
        exprs = ((bound.typed types.str (bound.constant (value.Str (codes "else")) origin.Literal))
            ∷ []);
        rules = (record { bits = 0 });
        mentions = ([]);
      });
    }) ∷
    (record {
      source = (record { place = (record { file = 1; line = 9 }); text = (codes "End If"); form = vb.end_if });
      bindings
          = (record { exprs = ([]); rules = (record { bits = 0 }); mentions = ([]) });
    }) ∷
    (record {
      source = (record {
        place = (record { file = 1; line = 10 });
        text = (codes "Select Case n");
        form = (vb.select
            (vb.word (codes "n") suffix.Absent));
      });
      bindings = (record {
        exprs = ((bound.typed types.long (bound.variable (record
            { 0 = 0 }) false)) ∷ []);
        rules = (record { bits = 0 });
        mentions = ((mention.Var (record { 0 = 0 })) ∷ []);
      });
    }) ∷
    (record {
      source = (record {
        place = (record { file = 1; line = 11 });
        text = (codes "Case 5");
        form = (vb.case_line ((vb.case_value
            (vb.lit (literal.Int (pos 5) false))) ∷ []));
      });
      bindings = (record {
        exprs = ((bound.typed types.long (bound.convert
            types.long (bound.typed types.integer (bound.constant (value.Int (pos 5)) origin.Literal)))) ∷ []);
        rules = (record {
          bits = 0;
        });
        mentions = ([]);
      });
    }) ∷
    (record {
      source = (record {
        place = (record { file = 1; line = 12 });
        text = (68 ∷ 101 ∷ 98 ∷ 117 ∷ 103 ∷ 46 ∷ 80 ∷ 114
            ∷ 105 ∷ 110 ∷ 116 ∷ 32 ∷ 34 ∷ 102 ∷ 105 ∷ 118 ∷ 101 ∷ 34 ∷ []);
        form = (vb.debug_print ((vb.lit (literal.Str (codes "five")))
            ∷ []) false);
      });
      bindings = (record {
        exprs = ((bound.typed types.str (bound.constant (value.Str (codes "five")) origin.Literal))
            ∷ []);
        rules = (record { bits = 0 });
        mentions = ([]);
      });
    }) ∷
    (record {
      source = (record {
        place = (record { file = 1; line = 13 });
        text = (codes "Case 0");
        form = (vb.case_line ((vb.case_value
            (vb.lit (literal.Int (pos 0) false))) ∷ []));
      });
      bindings = (record {
        exprs = ((bound.typed types.long (bound.convert
            types.long (bound.typed types.integer (bound.constant (value.Int (pos 0)) origin.Literal)))) ∷ []);
        rules = (record {
          bits = 0;
        });
        mentions = ([]);
      });
    }) ∷
    (record {
      source = (record {
        place = (record { file = 1; line = 14 });
        text = (68 ∷ 101 ∷ 98 ∷ 117 ∷ 103 ∷ 46 ∷ 80 ∷ 114
            ∷ 105 ∷ 110 ∷ 116 ∷ 32 ∷ 34 ∷ 115 ∷ 101 ∷ 108 ∷ 101 ∷ 99 ∷ 116 ∷ 34 ∷ []);
        form = (vb.debug_print ((vb.lit (literal.Str
            (codes "select"))) ∷ []) false);
      });
      bindings = (record {
        exprs = ((bound.typed types.str (bound.constant (value.Str (codes
            "select")) origin.Literal)) ∷ []);
        rules = (record { bits = 0 });
        mentions = ([]);
      });
    }) ∷
    (record {
      source = (record {
        place = (record { file = 1; line = 15 });
        text = (codes "End Select");
        form = vb.end_select;
      });
      bindings = (record { exprs = ([]); rules = (record { bits = 0 }); mentions = ([]) });
    }) ∷
    (record {
      source = (record {
        place = (record { file = 1; line = 16 });
        text = (codes "While n < 1");
        form = (vb.while_head
            (vb.binary bin.Less (vb.word (codes "n") suffix.Absent) (vb.lit (literal.Int (pos 1) false))));
      });
      bindings = (record {
        exprs = ((bound.typed types.boolean (bound.binary bin.Less (bound.typed types.long (bound.variable (record { 0 = 0 })
            false)) (bound.typed types.long (bound.convert types.long (bound.typed types.integer (bound.constant (value.Int (pos 1))
            origin.Literal)))))) ∷ []);
        rules = (record { bits = 0 });
        mentions = ((mention.Var (record { 0 = 0 })) ∷ []);
      });
    }) ∷
    (record {
      source = (record {
        place = (record { file = 1; line = 17 });
        text = (codes "n = n + 1");
        form = (vb.assign (vb.word
            (codes "n") suffix.Absent) (vb.binary bin.Add (vb.word (codes "n") suffix.Absent) (vb.lit (literal.Int (pos 1) false))));
      });
      bindings = (record {
        exprs = ((bound.typed types.long (bound.variable (record { 0 = 0 }) false)) ∷ (bound.typed types.long
            (bound.binary bin.Add (bound.typed types.long (bound.variable (record { 0 = 0 }) false)) (bound.typed types.long (bound.convert
            types.long (bound.typed types.integer (bound.constant (value.Int (pos 1)) origin.Literal)))))) ∷ []);
        rules = (record
            { bits = 0 });
        mentions = ((mention.Var (record { 0 = 0 })) ∷ (mention.Var (record { 0 = 0 })) ∷ []);
      });
    }) ∷
    (record {
      source = (record { place = (record { file = 1; line = 18 }); text = (codes "Wend"); form = vb.wend });
      bindings
          = (record { exprs = ([]); rules = (record { bits = 0 }); mentions = ([]) });
    }) ∷
    (record {
      source = (record {
        place = (record { file = 1; line = 19 });
        text = (68 ∷ 101 ∷ 98 ∷ 117 ∷ 103 ∷ 46 ∷ 80 ∷ 114
            ∷ 105 ∷ 110 ∷ 116 ∷ 32 ∷ 34 ∷ 101 ∷ 110 ∷ 100 ∷ 34 ∷ []);
        form = (vb.debug_print ((vb.lit (literal.Str (codes "end")))
            ∷ []) false);
      });
      bindings = (record {
        exprs = ((bound.typed types.str (bound.constant (value.Str (codes "end")) origin.Literal))
            ∷ []);
        rules = (record { bits = 0 });
        mentions = ([]);
      });
    }) ∷ [])

abbrev pub bodies : List (List bound.Line)
bodies = body_0 ∷ []

abbrev pub program : bound.Program
program = record { declarations = declarations; bodies = bodies }

abbrev pub quiet : List (List Bool)
quiet = (([]) ∷ [])

abbrev pub lows : List (VarId × ℤ × ℤ)
lows = ([])

abbrev pub clean : List Bool
clean = (true ∷ [])

abbrev pub written : net.Project
written = (record {
  library = false;
  main = (Some (codes "Main1"));
  note = None;
  modules = ((record {
    name = (codes "Main1");
    class = false;
    members = (
        (net.proc (record {
          head = (net.sub net_visible.Public (codes "Main") ([]));
          prologue = (
              (net.local (record { name = (codes "n"); ty = net_types.integer; value = None })) ∷ []);
          lines = (
              (net.if_head (net.binary net_bin.Equal (net.path ((codes "n") ∷ [])) (net.lit (net.integer (pos 1) false)))) ∷
              (net.call (net.path ((codes "UpgradeSupport") ∷ (codes "PrintLine") ∷ [])) (net.next_exp (net.lit (net.str (codes "never")))
              net.no_exps)) ∷
              (net.else_if (net.binary net_bin.Equal (net.path ((codes "n") ∷ [])) (net.lit (net.integer (pos 0) false)))) ∷
              (net.call (net.path ((codes "UpgradeSupport") ∷ (codes "PrintLine") ∷ [])) (net.next_exp (net.lit (net.str (codes "zero")))
              net.no_exps)) ∷
              net.else_line ∷
              (net.call (net.path ((codes "UpgradeSupport") ∷ (codes "PrintLine") ∷ [])) (net.next_exp (net.lit (net.str (codes "else")))
              net.no_exps)) ∷
              net.end_if ∷
              (net.select (net.path ((codes "n") ∷ []))) ∷
              (net.case_line ((net.case_value (net.lit (net.integer (pos 5) false))) ∷ [])) ∷
              (net.call (net.path ((codes "UpgradeSupport") ∷ (codes "PrintLine") ∷ [])) (net.next_exp (net.lit (net.str (codes "five")))
              net.no_exps)) ∷
              (net.case_line ((net.case_value (net.lit (net.integer (pos 0) false))) ∷ [])) ∷
              (net.call (net.path ((codes "UpgradeSupport") ∷ (codes "PrintLine") ∷ [])) (net.next_exp (net.lit (net.str (codes "select")))
              net.no_exps)) ∷
              net.end_select ∷
              (net.while_head (net.binary net_bin.Less (net.path ((codes "n") ∷ [])) (net.lit (net.integer (pos 1) false)))) ∷
              (net.assign (net.path ((codes "n") ∷ [])) (net.binary net_bin.Add (net.path ((codes "n") ∷ [])) (net.lit (net.integer
              (pos 1) false)))) ∷
              net.end_while ∷
              (net.call (net.path ((codes "UpgradeSupport") ∷ (codes "PrintLine") ∷ [])) (net.next_exp (net.lit (net.str (codes "end")))
              net.no_exps)) ∷ []);
          close = close.EndSub;
        })) ∷ []);
  }) ∷ []);
  support = (record {
    name = (codes "UpgradeSupport");
    class
        = false;
    members = (
        (net.proc (record {
          head = (net.sub net_visible.Public (codes "PrintLine") ((record {
            passing = net_passing.Value;
            name
                = (codes "s");
            ty = net_types.str;
          }) ∷ []));
          prologue = ([]);
          lines = (
              (net.call (net.path ((codes "System") ∷ (codes "Console") ∷ (codes "WriteLine") ∷ [])) (net.next_exp (net.path ((codes
              "s") ∷ [])) net.no_exps)) ∷ []);
          close = close.EndSub;
        })) ∷ []);
  });
})

abbrev pub runnable : Runnable
runnable = runnable_of program quiet lows

said : ran runnable 0 10 ≡ (
  line (codes "zero")
      ++ line (codes "select"),
  steps_spent,
)
unfolding digits
said = refl

said_written : ran_written written 0 10 ≡ (
  line (codes "zero")
      ++ line (codes "select"),
  steps_spent,
)
unfolding digits
said_written = refl
