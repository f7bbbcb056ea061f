-- The program control-select, what it puts out and how it ends.
use Rattle.std.proofs.Common.{◌≡◌, refl, List, ℤ, pos, Bool, true, false, [], ◌∷◌, codes, Some, None}
use Rattle.vb_tree.specs.declared.declared.VarId.{VarId}
use Rattle.bound_tree.specs.Tree as bound
use Rattle.net_tree.specs.Tree as net
use Rattle.net_tree.specs.Types as net_types
use Rattle.vb_tree.specs.BoundTree as types
use Rattle.vb_tree.specs.Tree as vb
use Rattle.vb_tree.specs.declared.expression.BinOp.TheVariants as bin
use Rattle.net_tree.specs.declared.declaration.NetClose.TheVariants as close
use Rattle.vb_tree.specs.declared.declared.ProcKind.TheVariants as kind
use Rattle.vb_tree.specs.declared.token.Literal6.TheVariants as literal
use Rattle.bound_tree.specs.declared.body.Mention.TheVariants as mention
use Rattle.bound_tree.specs.declared.declared.Named.TheVariants as named
use Rattle.net_tree.specs.declared.expression.NetBin.TheVariants as net_bin
use Rattle.net_tree.specs.declared.declaration.NetPassing.TheVariants as net_passing
use Rattle.net_tree.specs.declared.declaration.NetVisibility.TheVariants as net_visible
use Rattle.bound_tree.specs.declared.expression.Origin.TheVariants as origin
use Rattle.vb_tree.specs.declared.declared.Owner.TheVariants as owner
use Rattle.vb_tree.specs.declared.project.ProjectKind.TheVariants as project_kind
use Rattle.bound_tree.specs.declared.declared.Scope.TheVariants as scope
use Rattle.vb_tree.specs.declared.token.Suffix.TheVariants as suffix
use Rattle.vb_tree.specs.declared.value.Value6.TheVariants as value
use Rattle.vb_tree.specs.declared.form_parts.VarWord.TheVariants as var
use Rattle.vb_tree.specs.declared.form_parts.Visibility.TheVariants as visible
use Rattle.std.specs.Fmt.{digits}
use Rattle.example_runs.proofs.Said.{ended, line, ran, ran_written, runnable_of}
use Rattle.vb6_run.specs.Runnables.{Runnable}

abbrev pub project : vb.Project
project = (record {
  file = (record {
    kind = project_kind.Exe;
    startup = (Some (3, (codes "Sub Main")));
    entries = ((record
        { line = 2; class = false; name = (codes "Main1"); file = (codes "Main1.bas") }) ∷ []);
    dropped = ([]);
  });
  modules = ((record {
    file = 1;
    name = (codes "Main1");
    class = false;
    members = (
        (vb.proc (record {
          place = (record { file = 1; line = 1 });
          text = (codes "Sub Main()");
          form = (vb.sub_head (record {
            visibility = None;
            name = (codes "Main");
            suffix = suffix.Absent;
            params = ([]);
          }));
        }) (vb.next_node
        (vb.line (record {
          place = (record { file = 1; line = 2 });
          text = (codes "Dim i As Long");
          form = (vb.variables var.Dim
              ((record {
                name = (codes "i");
                suffix = suffix.Absent;
                bounds = None;
                auto = false;
                ty = (Some (vb.named (codes "Long")));
              }) ∷ []));
        })) (vb.next_node
        (vb.block (record {
          place = (record { file = 1; line = 3 });
          text = (codes "For i = 0 To 7");
          form = (vb.for_head (vb.word
              (codes "i") suffix.Absent) (vb.lit (literal.Int (pos 0) false)) (vb.lit (literal.Int (pos 7) false)) None);
        }) (vb.next_node
        (vb.block (record {
          place = (record { file = 1; line = 4 });
          text = (codes "Select Case i");
          form = (vb.select (vb.word
              (codes "i") suffix.Absent));
        }) vb.no_nodes (vb.next_middle (record {
          place = (record { file = 1; line = 5 });
          text = (codes
              "Case 1, 3");
          form = (vb.case_line ((vb.case_value (vb.lit (literal.Int (pos 1) false))) ∷ (vb.case_value (vb.lit (literal.Int
              (pos 3) false))) ∷ []));
        }) (vb.next_node
        (vb.line (record {
          place = (record { file = 1; line = 6 });
          text = (68 ∷ 101 ∷ 98 ∷ 117 ∷ 103 ∷ 46 ∷ 80 ∷ 114 ∷ 105
              ∷ 110 ∷ 116 ∷ 32 ∷ 34 ∷ 111 ∷ 100 ∷ 100 ∷ 34 ∷ 59 ∷ []);
          form = (vb.debug_print ((vb.lit (literal.Str (codes "odd")))
              ∷ []) true);
        })) vb.no_nodes) (vb.next_middle (record {
          place = (record { file = 1; line = 7 });
          text = (codes "Case 4 To 5");
          form = (vb.case_line ((vb.case_range (vb.lit (literal.Int (pos 4) false)) (vb.lit (literal.Int (pos 5) false))) ∷ []));
        }) (vb.next_node
        (vb.line (record {
          place = (record { file = 1; line = 8 });
          text = (68 ∷ 101 ∷ 98 ∷ 117 ∷ 103 ∷ 46 ∷ 80 ∷ 114 ∷ 105
              ∷ 110 ∷ 116 ∷ 32 ∷ 34 ∷ 109 ∷ 105 ∷ 100 ∷ 34 ∷ 59 ∷ []);
          form = (vb.debug_print ((vb.lit (literal.Str (codes "mid")))
              ∷ []) true);
        })) vb.no_nodes) (vb.next_middle (record {
          place = (record { file = 1; line = 9 });
          text = (codes "Case Is > 6");
          form = (vb.case_line ((vb.case_is bin.Greater (vb.lit (literal.Int (pos 6) false))) ∷ []));
        }) (vb.next_node
        (vb.line (record {
          place = (record { file = 1; line = 10 });
          text = (68 ∷ 101 ∷ 98 ∷ 117 ∷ 103 ∷ 46 ∷ 80 ∷ 114 ∷ 105
              ∷ 110 ∷ 116 ∷ 32 ∷ 34 ∷ 98 ∷ 105 ∷ 103 ∷ 34 ∷ 59 ∷ []);
          form = (vb.debug_print ((vb.lit (literal.Str (codes "big"))) ∷
              []) true);
        })) vb.no_nodes) (vb.next_middle (record {
          place = (record { file = 1; line = 11 });
          text = (codes "Case Else");
          form = vb.case_else;
        }) (vb.next_node
        (vb.line (record {
          place = (record { file = 1; line = 12 });
          text = (68 ∷ 101 ∷ 98 ∷ 117 ∷ 103 ∷ 46 ∷ 80 ∷ 114 ∷ 105
              ∷ 110 ∷ 116 ∷ 32 ∷ 34 ∷ 101 ∷ 108 ∷ 115 ∷ 101 ∷ 34 ∷ 59 ∷ []);
          form = (vb.debug_print ((vb.lit (literal.Str (codes "else")))
              ∷ []) true);
        })) vb.no_nodes) vb.no_middles)))) (record {
          place = (record { file = 1; line = 13 });
          text = (codes "End Select");
          form = vb.end_select;
        })) vb.no_nodes) vb.no_middles (record {
          place = (record { file = 1; line = 14 });
          text = (codes
              "Next i");
          form = (vb.next (Some ((codes "i"), suffix.Absent)));
        })) (vb.next_node
        (vb.line (record {
          place = (record { file = 1; line = 15 });
          text = (codes "Debug.Print");
          form = (vb.debug_print ([])
              false);
        })) vb.no_nodes))) (record {
          place = (record { file = 1; line = 16 });
          text = (codes "End Sub");
          form = vb.end_sub;
        })) ∷ []);
    comments = ([]);
  }) ∷ []);
})

abbrev pub declarations : bound.Declarations
declarations = (record {
  project = project;
  names = (
      (record { name = (codes "Main"); scope = (scope.Public 1); named = (named.Proc (record { 0 = 0 })) }) ∷
      (record { name = (codes "i"); scope = (scope.Local (record { 0 = 0 })); named = (named.Var (record { 0 = 0 })) }) ∷ []);
  vars = (
      (record {
        name = (codes "i");
        place = (record { file = 1; line = 2 });
        statement = 1;
        owner = (owner.Local (record {
          0
              = 0;
        }));
        ty = types.long;
        named = types.long;
        qualified = false;
        lettered = None;
        bounds = ([]);
        auto = false;
        preset
            = None;
      }) ∷ []);
  consts = ([]);
  procs = (
      (record {
        name = (codes "Main");
        place = (record { file = 1; line = 1 });
        module_number = 1;
        kind = kind.Sub;
        visibility
            = visible.Public;
        params = ([]);
        result = types.nothing;
        answer = None;
        first = (record { 0 = 0 });
      }) ∷ []);
  types = ([]);
  enums = ([]);
  defaults = ([]);
})

abbrev pub body_0 : List bound.Line
body_0 = (
    (record {
      source = (record {
        place = (record { file = 1; line = 3 });
        text = (codes "For i = 0 To 7");
        form = (vb.for_head
            (vb.word (codes "i") suffix.Absent) (vb.lit (literal.Int (pos 0) false)) (vb.lit (literal.Int (pos 7) false)) None);
      });
      bindings = (record {
        exprs = ((bound.typed types.long (bound.variable (record { 0 = 0 }) false)) ∷ (bound.typed types.long
            (bound.convert types.long (bound.typed types.integer (bound.constant (value.Int (pos 0)) origin.Literal)))) ∷ (bound.typed
            types.long (bound.convert types.long (bound.typed types.integer (bound.constant (value.Int (pos 7)) origin.Literal))))
            ∷ []);
        rules = (record { bits = 0 });
        mentions = ((mention.Var (record { 0 = 0 })) ∷ []);
      });
    }) ∷
    (record {
      source = (record {
        place = (record { file = 1; line = 4 });
        text = (codes "Select Case i");
        form = (vb.select
            (vb.word (codes "i") suffix.Absent));
      });
      bindings = (record {
        exprs = ((bound.typed types.long (bound.variable (record
            { 0 = 0 }) false)) ∷ []);
        rules = (record { bits = 0 });
        mentions = ((mention.Var (record { 0 = 0 })) ∷ []);
      });
    }) ∷
    (record {
      source = (record {
        place = (record { file = 1; line = 5 });
        text = (codes "Case 1, 3");
        form = (vb.case_line
            ((vb.case_value (vb.lit (literal.Int (pos 1) false))) ∷ (vb.case_value (vb.lit (literal.Int (pos 3) false))) ∷ []));
      });
      bindings = (record {
        exprs = ((bound.typed types.long (bound.convert types.long (bound.typed types.integer (bound.constant
            (value.Int (pos 1)) origin.Literal)))) ∷ (bound.typed types.long (bound.convert types.long (bound.typed types.integer
            (bound.constant (value.Int (pos 3)) origin.Literal)))) ∷ []);
        rules = (record { bits = 0 });
        mentions = ([]);
      });
    }) ∷
    (record {
      source = (record {
        place = (record { file = 1; line = 6 });
        text = (68 ∷ 101 ∷ 98 ∷ 117 ∷ 103 ∷ 46 ∷ 80 ∷ 114
            ∷ 105 ∷ 110 ∷ 116 ∷ 32 ∷ 34 ∷ 111 ∷ 100 ∷ 100 ∷ 34 ∷ 59 ∷ []);
        form = (vb.debug_print ((vb.lit (literal.Str (codes "odd")))
            ∷ []) true);
      });
      bindings = (record {
        exprs = ((bound.typed types.str (bound.constant (value.Str (codes "odd")) origin.Literal))
            ∷ []);
        rules = (record { bits = 0 });
        mentions = ([]);
      });
    }) ∷
    (record {
      source = (record {
        place = (record { file = 1; line = 7 });
        text = (codes "Case 4 To 5");
        form = (vb.case_line
            ((vb.case_range (vb.lit (literal.Int (pos 4) false)) (vb.lit (literal.Int (pos 5) false))) ∷ []));
      });
      bindings = (record {
        exprs = ((bound.typed types.long (bound.convert types.long (bound.typed types.integer (bound.constant (value.Int (pos
            4)) origin.Literal)))) ∷ (bound.typed types.long (bound.convert types.long (bound.typed types.integer (bound.constant
            (value.Int (pos 5)) origin.Literal)))) ∷ []);
        rules = (record { bits = 0 });
        mentions = ([]);
      });
    }) ∷
    (record {
      source = (record {
        place = (record { file = 1; line = 8 });
        text = (68 ∷ 101 ∷ 98 ∷ 117 ∷ 103 ∷ 46 ∷ 80 ∷ 114
            ∷ 105 ∷ 110 ∷ 116 ∷ 32 ∷ 34 ∷ 109 ∷ 105 ∷ 100 ∷ 34 ∷ 59 ∷ []);
        form = (vb.debug_print ((vb.lit (literal.Str (codes "mid")))
            ∷ []) true);
      });
      bindings = (record {
        exprs = ((bound.typed types.str (bound.constant (value.Str (codes "mid")) origin.Literal))
            ∷ []);
        rules = (record { bits = 0 });
        mentions = ([]);
      });
    }) ∷
    (record {
      source = (record {
        place = (record { file = 1; line = 9 });
        text = (codes "Case Is > 6");
        form = (vb.case_line
            ((vb.case_is bin.Greater (vb.lit (literal.Int (pos 6) false))) ∷ []));
      });
      bindings = (record {
        exprs = ((bound.typed types.long
            (bound.convert types.long (bound.typed types.integer (bound.constant (value.Int (pos 6)) origin.Literal)))) ∷ []);
        rules
            = (record { bits = 0 });
        mentions = ([]);
      });
    }) ∷
    (record {
      source = (record {
        place = (record { file = 1; line = 10 });
        text = (68 ∷ 101 ∷ 98 ∷ 117 ∷ 103 ∷ 46 ∷ 80 ∷ 114
            ∷ 105 ∷ 110 ∷ 116 ∷ 32 ∷ 34 ∷ 98 ∷ 105 ∷ 103 ∷ 34 ∷ 59 ∷ []);
        form = (vb.debug_print ((vb.lit (literal.Str (codes "big")))
            ∷ []) true);
      });
      bindings = (record {
        exprs = ((bound.typed types.str (bound.constant (value.Str (codes "big")) origin.Literal))
            ∷ []);
        rules = (record { bits = 0 });
        mentions = ([]);
      });
    }) ∷
    (record {
      source = (record {
        place = (record { file = 1; line = 11 });
        text = (codes "Case Else");
        form = vb.case_else;
      });
      bindings = (record { exprs = ([]); rules = (record { bits = 0 }); mentions = ([]) });
    }) ∷
    (record {
      source = (record {
        place = (record { file = 1; line = 12 });
        text = (68 ∷ 101 ∷ 98 ∷ 117 ∷ 103 ∷ 46 ∷ 80 ∷ 114
            ∷ 105 ∷ 110 ∷ 116 ∷ 32 ∷ 34 ∷ 101 ∷ 108 ∷ 115 ∷ 101 ∷ 34 ∷ 59 ∷ []);
        form = (vb.debug_print ((vb.lit (literal.Str (codes
            "else"))) ∷ []) true);
      });
      bindings = (record {
        exprs = ((bound.typed types.str (bound.constant (value.Str (codes "else"))
            origin.Literal)) ∷ []);
        rules = (record { bits = 0 });
        mentions = ([]);
      });
    }) ∷
    (record {
      source = (record {
        place = (record { file = 1; line = 13 });
        text = (codes "End Select");
        form = vb.end_select;
      });
      bindings = (record { exprs = ([]); rules = (record { bits = 0 }); mentions = ([]) });
    }) ∷
    (record {
      source = (record {
        place = (record { file = 1; line = 14 });
        text = (codes "Next i");
        form = (vb.next (Some
            ((codes "i"), suffix.Absent)));
      });
      bindings = (record { exprs = ([]); rules = (record { bits = 0 }); mentions = ([]) });
    }) ∷
    (record {
      source = (record {
        place = (record { file = 1; line = 15 });
        text = (codes "Debug.Print");
        form = (vb.debug_print
            ([]) false);
      });
      bindings = (record { exprs = ([]); rules = (record { bits = 0 }); mentions = ([]) });
    }) ∷ [])

abbrev pub bodies : List (List bound.Line)
bodies = body_0 ∷ []

abbrev pub program : bound.Program
program = record { declarations = declarations; bodies = bodies }

abbrev pub quiet : List (List Bool)
quiet = (([]) ∷ [])

abbrev pub lows : List (VarId × ℤ × ℤ)
lows = ([])

abbrev pub clean : List Bool
clean = (true ∷ [])

abbrev pub written : net.Project
written = (record {
  library = false;
  main = (Some (codes "Main1"));
  note = None;
  modules = ((record {
    name = (codes "Main1");
    class = false;
    members = (
        (net.proc (record {
          head = (net.sub net_visible.Public (codes "Main") ([]));
          prologue = (
              (net.local (record { name = (codes "i"); ty = net_types.integer; value = None })) ∷ []);
          lines = (
              (net.for_head (net.path ((codes "i") ∷ [])) (net.lit (net.integer (pos 0) false)) (net.lit (net.integer (pos 7) false))
              None) ∷
              (net.select (net.path ((codes "i") ∷ []))) ∷
              (net.case_line ((net.case_value (net.lit (net.integer (pos 1) false))) ∷ (net.case_value (net.lit (net.integer (pos 3)
              false))) ∷ [])) ∷
              (net.call (net.path ((codes "UpgradeSupport") ∷ (codes "PrintPart") ∷ [])) (net.next_exp (net.lit (net.str (codes "odd")))
              net.no_exps)) ∷
              (net.case_line ((net.case_range (net.lit (net.integer (pos 4) false)) (net.lit (net.integer (pos 5) false))) ∷ [])) ∷
              (net.call (net.path ((codes "UpgradeSupport") ∷ (codes "PrintPart") ∷ [])) (net.next_exp (net.lit (net.str (codes "mid")))
              net.no_exps)) ∷
              (net.case_line ((net.case_is net_bin.Greater (net.lit (net.integer (pos 6) false))) ∷ [])) ∷
              (net.call (net.path ((codes "UpgradeSupport") ∷ (codes "PrintPart") ∷ [])) (net.next_exp (net.lit (net.str (codes "big")))
              net.no_exps)) ∷
              net.case_else ∷
              (net.call (net.path ((codes "UpgradeSupport") ∷ (codes "PrintPart") ∷ [])) (net.next_exp (net.lit (net.str (codes "else")))
              net.no_exps)) ∷
              net.end_select ∷
              net.next ∷
              (net.call (net.path ((codes "UpgradeSupport") ∷ (codes "PrintLine") ∷ [])) (net.next_exp (net.lit (net.str [])) net.no_exps))
              ∷ []);
          close = close.EndSub;
        })) ∷ []);
  }) ∷ []);
  support = (record {
    name = (codes "UpgradeSupport");
    class = false;
    members
        = (
        (net.proc (record {
          head = (net.sub net_visible.Public (codes "PrintLine") ((record {
            passing = net_passing.Value;
            name
                = (codes "s");
            ty = net_types.str;
          }) ∷ []));
          prologue = ([]);
          lines = (
              (net.call (net.path ((codes "System") ∷ (codes "Console") ∷ (codes "WriteLine") ∷ [])) (net.next_exp (net.path ((codes
              "s") ∷ [])) net.no_exps)) ∷ []);
          close = close.EndSub;
        })) ∷
        (net.proc (record {
          head = (net.sub net_visible.Public (codes "PrintPart") ((record {
            passing = net_passing.Value;
            name
                = (codes "s");
            ty = net_types.str;
          }) ∷ []));
          prologue = ([]);
          lines = (
              (net.call (net.path ((codes "System") ∷ (codes "Console") ∷ (codes "Write") ∷ [])) (net.next_exp (net.path ((codes "s")
              ∷ [])) net.no_exps)) ∷ []);
          close = close.EndSub;
        })) ∷ []);
  });
})

abbrev pub runnable : Runnable
runnable = runnable_of program quiet lows

said : ran runnable 0 2000 ≡
    (line (codes "elseoddelseoddmidmidelsebig"), ended)
unfolding digits
said = refl

said_written : ran_written written 0 2000 ≡
    (line (codes "elseoddelseoddmidmidelsebig"), ended)
unfolding digits
said_written = refl
