-- The program calls-members-of-results, what it puts out and how it ends.
use Rattle.std.proofs.Common.{◌≡◌, refl, ◌++◌, List, ℤ, pos, Bool, true, false, [], ◌∷◌, codes, Some, None}
use Rattle.vb_tree.specs.declared.declared.VarId.{VarId}
use Rattle.bound_tree.specs.Tree as bound
use Rattle.net_tree.specs.Tree as net
use Rattle.net_tree.specs.Types as net_types
use Rattle.vb_tree.specs.BoundTree as types
use Rattle.vb_tree.specs.Tree as vb
use Rattle.vb_tree.specs.declared.expression.BinOp.TheVariants as bin
use Rattle.net_tree.specs.declared.expression.CastWord.TheVariants as cast
use Rattle.net_tree.specs.declared.declaration.NetClose.TheVariants as close
use Rattle.vb_tree.specs.declared.declared.ProcKind.TheVariants as kind
use Rattle.vb_tree.specs.declared.token.Literal6.TheVariants as literal
use Rattle.bound_tree.specs.declared.body.Mention.TheVariants as mention
use Rattle.bound_tree.specs.declared.declared.Named.TheVariants as named
use Rattle.net_tree.specs.declared.expression.NetBin.TheVariants as net_bin
use Rattle.net_tree.specs.declared.declaration.NetPassing.TheVariants as net_passing
use Rattle.net_tree.specs.declared.declaration.NetVisibility.TheVariants as net_visible
use Rattle.bound_tree.specs.declared.expression.Origin.TheVariants as origin
use Rattle.vb_tree.specs.declared.declared.Owner.TheVariants as owner
use Rattle.vb_tree.specs.declared.form_parts.Passing.TheVariants as passing
use Rattle.vb_tree.specs.declared.project.ProjectKind.TheVariants as project_kind
use Rattle.bound_tree.specs.declared.declared.Scope.TheVariants as scope
use Rattle.vb_tree.specs.declared.token.Suffix.TheVariants as suffix
use Rattle.vb_tree.specs.declared.value.Value6.TheVariants as value
use Rattle.vb_tree.specs.declared.form_parts.VarWord.TheVariants as var
use Rattle.vb_tree.specs.declared.form_parts.Visibility.TheVariants as visible
use Rattle.std.specs.Fmt.{digits}
use Rattle.example_runs.proofs.Said.{ended, line, ran, ran_written, runnable_of}
use Rattle.vb6_run.specs.Runnables.{Runnable}

abbrev pub project : vb.Project
project = (record {
  file = (record {
    kind = project_kind.Exe;
    startup = (Some (4, (codes "Sub Main")));
    entries = ((record
        { line = 2; class = false; name = (codes "Main1"); file = (codes "Main1.bas") }) ∷ (record {
          line = 3;
          class = true;
          name
              = (codes "Node");
          file = (codes "Node.cls");
        }) ∷ []);
    dropped = ([]);
  });
  modules = ((record {
    file = 1;
    name = (codes
        "Main1");
    class = false;
    members = (
        (vb.proc (record {
          place = (record { file = 1; line = 1 });
          text = (codes "Function Make(ByVal n As Long) As Node");
          form
              = (vb.function_head (record {
                visibility = None;
                name = (codes "Make");
                suffix = suffix.Absent;
                params = ((record {
                  optional
                      = false;
                  passing = passing.Value;
                  param_array = false;
                  name = (codes "n");
                  suffix = suffix.Absent;
                  array = false;
                  ty =
                      (Some (vb.named (codes "Long")));
                  preset = None;
                }) ∷ []);
              }) (Some (record {
                ty = (vb.named (codes "Node"));
                array = false;
              })));
        }) (vb.next_node
        (vb.line (record {
          place = (record { file = 1; line = 2 });
          text = (codes "Set Make = New Node");
          form = (vb.set (vb.word
              (codes "Make") suffix.Absent) (vb.new_object (codes "Node")));
        })) (vb.next_node
        (vb.line (record {
          place = (record { file = 1; line = 3 });
          text = (codes "Make.k = n");
          form = (vb.assign (vb.member
              (vb.word (codes "Make") suffix.Absent) (codes "k")) (vb.word (codes "n") suffix.Absent));
        })) vb.no_nodes)) (record {
          place
              = (record { file = 1; line = 4 });
          text = (codes "End Function");
          form = vb.end_function;
        })) ∷
        (vb.proc (record {
          place = (record { file = 1; line = 6 });
          text = (codes "Sub Main()");
          form = (vb.sub_head (record {
            visibility = None;
            name = (codes "Main");
            suffix = suffix.Absent;
            params = ([]);
          }));
        }) (vb.next_node
        (vb.line (record {
          place = (record { file = 1; line = 7 });
          text = (codes "Dim a(3) As Node, i As Long, n As Node");
          form = (vb.variables var.Dim ((record {
            name = (codes "a");
            suffix = suffix.Absent;
            bounds = (Some ((record {
              lower =
                  None;
              upper = (vb.lit (literal.Int (pos 3) false));
            }) ∷ []));
            auto = false;
            ty = (Some (vb.named (codes "Node")));
          }) ∷
              (record {
                name = (codes "i");
                suffix = suffix.Absent;
                bounds = None;
                auto = false;
                ty = (Some (vb.named (codes "Long")));
              }) ∷ (record {
                name = (codes "n");
                suffix = suffix.Absent;
                bounds = None;
                auto = false;
                ty = (Some (vb.named (codes "Node")));
              }) ∷ []));
        })) (vb.next_node
        (vb.line (record {
          place = (record { file = 1; line = 8 });
          text = (codes "Debug.Print Make(5).k; Make(6).Twice(2); Make(1).Self.k");
          form = (vb.debug_print ((vb.member (vb.index (vb.word (codes "Make") suffix.Absent) (vb.next_arg None false (vb.given
              (vb.lit (literal.Int (pos 5) false))) vb.no_args)) (codes "k")) ∷ (vb.index (vb.member (vb.index (vb.word (codes "Make")
              suffix.Absent) (vb.next_arg None false (vb.given (vb.lit (literal.Int (pos 6) false))) vb.no_args)) (codes "Twice")) (vb.next_arg
              None false (vb.given (vb.lit (literal.Int (pos 2) false))) vb.no_args)) ∷ (vb.member (vb.member (vb.index (vb.word (codes
              "Make") suffix.Absent) (vb.next_arg None false (vb.given (vb.lit (literal.Int (pos 1) false))) vb.no_args)) (codes "Self"))
              (codes "k")) ∷ []) false);
        })) (vb.next_node
        (vb.line (record {
          place = (record { file = 1; line = 9 });
          text = (codes "Set n = Make(7)");
          form = (vb.set (vb.word
              (codes "n") suffix.Absent) (vb.index (vb.word (codes "Make") suffix.Absent) (vb.next_arg None false (vb.given (vb.lit
              (literal.Int (pos 7) false))) vb.no_args)));
        })) (vb.next_node
        (vb.line (record {
          place = (record { file = 1; line = 10 });
          text = (codes "Set a(1) = n");
          form = (vb.set (vb.index
              (vb.word (codes "a") suffix.Absent) (vb.next_arg None false (vb.given (vb.lit (literal.Int (pos 1) false))) vb.no_args))
              (vb.word (codes "n") suffix.Absent));
        })) (vb.next_node
        (vb.line (record {
          place = (record { file = 1; line = 11 });
          text = (codes "a(1).k = a(1).k + 1");
          form = (vb.assign
              (vb.member (vb.index (vb.word (codes "a") suffix.Absent) (vb.next_arg None false (vb.given (vb.lit (literal.Int (pos 1)
              false))) vb.no_args)) (codes "k")) (vb.binary bin.Add (vb.member (vb.index (vb.word (codes "a") suffix.Absent) (vb.next_arg
              None false (vb.given (vb.lit (literal.Int (pos 1) false))) vb.no_args)) (codes "k")) (vb.lit (literal.Int (pos 1) false))));
        })) (vb.next_node
        (vb.line (record {
          place = (record { file = 1; line = 12 });
          text = (codes "Set n.Child = New Node");
          form = (vb.set
              (vb.member (vb.word (codes "n") suffix.Absent) (codes "Child")) (vb.new_object (codes "Node")));
        })) (vb.next_node
        (vb.line (record {
          place = (record { file = 1; line = 13 });
          text = (codes "n.Child.k = 9");
          form = (vb.assign (vb.member
              (vb.member (vb.word (codes "n") suffix.Absent) (codes "Child")) (codes "k")) (vb.lit (literal.Int (pos 9) false)));
        }))
        (vb.next_node
        (vb.line (record {
          place = (record { file = 1; line = 14 });
          text = (codes "a(1).Child.P(2) = 4");
          form = (vb.assign
              (vb.index (vb.member (vb.member (vb.index (vb.word (codes "a") suffix.Absent) (vb.next_arg None false (vb.given (vb.lit
              (literal.Int (pos 1) false))) vb.no_args)) (codes "Child")) (codes "P")) (vb.next_arg None false (vb.given (vb.lit (literal.Int
              (pos 2) false))) vb.no_args)) (vb.lit (literal.Int (pos 4) false)));
        })) (vb.next_node
        (vb.line (record {
          place = (record { file = 1; line = 15 });
          text = (codes "Debug.Print a(1).k; a(1).Child.k; a(1).Child.P(2); a(i + 1).Twice(3)");
          form = (vb.debug_print ((vb.member (vb.index (vb.word (codes "a") suffix.Absent) (vb.next_arg None false (vb.given (vb.lit
              (literal.Int (pos 1) false))) vb.no_args)) (codes "k")) ∷ (vb.member (vb.member (vb.index (vb.word (codes "a") suffix.Absent)
              (vb.next_arg None false (vb.given (vb.lit (literal.Int (pos 1) false))) vb.no_args)) (codes "Child")) (codes "k")) ∷ (vb.index
              (vb.member (vb.member (vb.index (vb.word (codes "a") suffix.Absent) (vb.next_arg None false (vb.given (vb.lit (literal.Int
              (pos 1) false))) vb.no_args)) (codes "Child")) (codes "P")) (vb.next_arg None false (vb.given (vb.lit (literal.Int (pos
              2) false))) vb.no_args)) ∷ (vb.index (vb.member (vb.index (vb.word (codes "a") suffix.Absent) (vb.next_arg None false
              (vb.given (vb.binary bin.Add (vb.word (codes "i") suffix.Absent) (vb.lit (literal.Int (pos 1) false)))) vb.no_args)) (codes
              "Twice")) (vb.next_arg None false (vb.given (vb.lit (literal.Int (pos 3) false))) vb.no_args)) ∷ []) false);
        })) (vb.next_node
        (vb.line (record {
          place = (record { file = 1; line = 16 });
          text = (codes "a(1).Work");
          form = (vb.invoke (vb.member
              (vb.index (vb.word (codes "a") suffix.Absent) (vb.next_arg None false (vb.given (vb.lit (literal.Int (pos 1) false)))
              vb.no_args)) (codes "Work")) vb.no_args);
        })) (vb.next_node
        (vb.line (record {
          place = (record { file = 1; line = 17 });
          text = (codes "a(1).Child.Work");
          form = (vb.invoke (vb.member
              (vb.member (vb.index (vb.word (codes "a") suffix.Absent) (vb.next_arg None false (vb.given (vb.lit (literal.Int (pos 1)
              false))) vb.no_args)) (codes "Child")) (codes "Work")) vb.no_args);
        })) (vb.next_node
        (vb.line (record {
          place = (record { file = 1; line = 18 });
          text = (codes "Make(2).Work");
          form = (vb.invoke (vb.member
              (vb.index (vb.word (codes "Make") suffix.Absent) (vb.next_arg None false (vb.given (vb.lit (literal.Int (pos 2) false)))
              vb.no_args)) (codes "Work")) vb.no_args);
        })) vb.no_nodes)))))))))))) (record {
          place = (record { file = 1; line = 19 });
          text = (codes "End Sub");
          form = vb.end_sub;
        })) ∷ []);
    comments = ([]);
  }) ∷ (record {
    file = 2;
    name = (codes "Node");
    class = true;
    members = (
        (vb.alone (record {
          place = (record { file = 2; line = 4 });
          text = (codes "Public k As Long");
          form = (vb.variables var.Public
              ((record {
                name = (codes "k");
                suffix = suffix.Absent;
                bounds = None;
                auto = false;
                ty = (Some (vb.named (codes "Long")));
              }) ∷ []));
        })) ∷
        (vb.alone (record {
          place = (record { file = 2; line = 5 });
          text = (codes "Public Child As Node");
          form = (vb.variables
              var.Public ((record {
                name = (codes "Child");
                suffix = suffix.Absent;
                bounds = None;
                auto = false;
                ty = (Some (vb.named
                    (codes "Node")));
              }) ∷ []));
        })) ∷
        (vb.alone (record {
          place = (record { file = 2; line = 6 });
          text = (codes "Private t(3) As Long");
          form = (vb.variables
              var.Private ((record {
                name = (codes "t");
                suffix = suffix.Absent;
                bounds = (Some ((record {
                  lower = None;
                  upper = (vb.lit
                      (literal.Int (pos 3) false));
                }) ∷ []));
                auto = false;
                ty = (Some (vb.named (codes "Long")));
              }) ∷ []));
        })) ∷
        (vb.proc (record {
          place = (record { file = 2; line = 8 });
          text = (codes "Public Function Twice(ByVal n As Long) As Long");
          form = (vb.function_head (record {
            visibility = (Some visible.Public);
            name = (codes "Twice");
            suffix = suffix.Absent;
            params = ((record {
              optional = false;
              passing = passing.Value;
              param_array = false;
              name = (codes "n");
              suffix = suffix.Absent;
              array = false;
              ty = (Some (vb.named (codes "Long")));
              preset = None;
            }) ∷ []);
          }) (Some (record {
            ty = (vb.named (codes
                "Long"));
            array = false;
          })));
        }) (vb.next_node
        (vb.line (record {
          place = (record { file = 2; line = 9 });
          text = (codes "Twice = n * k");
          form = (vb.assign (vb.word
              (codes "Twice") suffix.Absent) (vb.binary bin.Mul (vb.word (codes "n") suffix.Absent) (vb.word (codes "k") suffix.Absent)));
        })) vb.no_nodes) (record {
          place = (record { file = 2; line = 10 });
          text = (codes "End Function");
          form = vb.end_function;
        })) ∷
        (vb.proc (record {
          place = (record { file = 2; line = 12 });
          text = (codes "Public Function Self() As Node");
          form = (vb.function_head
              (record { visibility = (Some visible.Public); name = (codes "Self"); suffix = suffix.Absent; params = ([]) }) (Some (record
              { ty = (vb.named (codes "Node")); array = false })));
        }) (vb.next_node
        (vb.line (record {
          place = (record { file = 2; line = 13 });
          text = (codes "Set Self = Me");
          form = (vb.set (vb.word
              (codes "Self") suffix.Absent) vb.me);
        })) vb.no_nodes) (record {
          place = (record { file = 2; line = 14 });
          text = (codes
              "End Function");
          form = vb.end_function;
        })) ∷
        (vb.proc (record {
          place = (record { file = 2; line = 16 });
          text = (codes "Public Property Get P(ByVal i As Long) As Long");
          form = (vb.get_head (record {
            visibility = (Some visible.Public);
            name = (codes "P");
            suffix = suffix.Absent;
            params =
                ((record {
                  optional = false;
                  passing = passing.Value;
                  param_array = false;
                  name = (codes "i");
                  suffix = suffix.Absent;
                  array = false;
                  ty = (Some (vb.named (codes "Long")));
                  preset = None;
                }) ∷ []);
          }) (Some (record {
            ty = (vb.named (codes
                "Long"));
            array = false;
          })));
        }) (vb.next_node
        (vb.line (record {
          place = (record { file = 2; line = 17 });
          text = (codes "P = t(i)");
          form = (vb.assign (vb.word (codes
              "P") suffix.Absent) (vb.index (vb.word (codes "t") suffix.Absent) (vb.next_arg None false (vb.given (vb.word (codes "i")
              suffix.Absent)) vb.no_args)));
        })) vb.no_nodes) (record {
          place = (record { file = 2; line = 18 });
          text = (codes "End Property");
          form = vb.end_property;
        })) ∷
        (vb.proc (record {
          place = (record { file = 2; line = 20 });
          text = (codes "Public Property Let P(ByVal i As Long, ByVal v As Long)");
          form = (vb.let_head (record {
            visibility = (Some visible.Public);
            name = (codes "P");
            suffix = suffix.Absent;
            params =
                ((record {
                  optional = false;
                  passing = passing.Value;
                  param_array = false;
                  name = (codes "i");
                  suffix = suffix.Absent;
                  array = false;
                  ty = (Some (vb.named (codes "Long")));
                  preset = None;
                }) ∷ (record {
                  optional = false;
                  passing = passing.Value;
                  param_array = false;
                  name = (codes "v");
                  suffix = suffix.Absent;
                  array = false;
                  ty = (Some (vb.named (codes "Long")));
                  preset = None;
                }) ∷ []);
          }));
        }) (vb.next_node
        (vb.line (record {
          place = (record { file = 2; line = 21 });
          text = (codes "t(i) = v");
          form = (vb.assign (vb.index
              (vb.word (codes "t") suffix.Absent) (vb.next_arg None false (vb.given (vb.word (codes "i") suffix.Absent)) vb.no_args))
              (vb.word (codes "v") suffix.Absent));
        })) vb.no_nodes) (record {
          place = (record { file = 2; line = 22 });
          text = (codes
              "End Property");
          form = vb.end_property;
        })) ∷
        (vb.proc (record {
          place = (record { file = 2; line = 24 });
          text = (codes "Public Sub Work()");
          form = (vb.sub_head (record
              { visibility = (Some visible.Public); name = (codes "Work"); suffix = suffix.Absent; params = ([]) }));
        }) (vb.next_node
        (vb.line (record {
          place = (record { file = 2; line = 25 });
          text = (68 ∷ 101 ∷ 98 ∷ 117 ∷ 103 ∷ 46 ∷ 80 ∷ 114 ∷ 105
              ∷ 110 ∷ 116 ∷ 32 ∷ 34 ∷ 119 ∷ 111 ∷ 114 ∷ 107 ∷ 34 ∷ 59 ∷ 32 ∷ 107 ∷ 59 ∷ 32 ∷ 77 ∷ 101 ∷ 46 ∷ 107 ∷ 59 ∷ 32 ∷ 77 ∷ 101
              ∷ 46 ∷ 84 ∷ 119 ∷ 105 ∷ 99 ∷ 101 ∷ 40 ∷ 50 ∷ 41 ∷ 59 ∷ 32 ∷ 84 ∷ 119 ∷ 105 ∷ 99 ∷ 101 ∷ 40 ∷ 51 ∷ 41 ∷ 59 ∷ 32 ∷ 77 ∷
              101 ∷ 46 ∷ 80 ∷ 40 ∷ 49 ∷ 41 ∷ []);
          form = (vb.debug_print ((vb.lit (literal.Str (codes "work"))) ∷ (vb.word (codes "k")
              suffix.Absent) ∷ (vb.member vb.me (codes "k")) ∷ (vb.index (vb.member vb.me (codes "Twice")) (vb.next_arg None false (vb.given
              (vb.lit (literal.Int (pos 2) false))) vb.no_args)) ∷ (vb.index (vb.word (codes "Twice") suffix.Absent) (vb.next_arg None
              false (vb.given (vb.lit (literal.Int (pos 3) false))) vb.no_args)) ∷ (vb.index (vb.member vb.me (codes "P")) (vb.next_arg
              None false (vb.given (vb.lit (literal.Int (pos 1) false))) vb.no_args)) ∷ []) false);
        })) (vb.next_node
        (vb.line (record {
          place = (record { file = 2; line = 26 });
          text = (codes "Me.P(1) = k");
          form = (vb.assign (vb.index
              (vb.member vb.me (codes "P")) (vb.next_arg None false (vb.given (vb.lit (literal.Int (pos 1) false))) vb.no_args)) (vb.word
              (codes "k") suffix.Absent));
        })) (vb.next_node
        (vb.line (record {
          place = (record { file = 2; line = 27 });
          text = (codes "P(2) = Me.P(1)");
          form = (vb.assign (vb.index
              (vb.word (codes "P") suffix.Absent) (vb.next_arg None false (vb.given (vb.lit (literal.Int (pos 2) false))) vb.no_args))
              (vb.index (vb.member vb.me (codes "P")) (vb.next_arg None false (vb.given (vb.lit (literal.Int (pos 1) false))) vb.no_args)));
        })) (vb.next_node
        (vb.line (record {
          place = (record { file = 2; line = 28 });
          text = (codes "Debug.Print P(2)");
          form = (vb.debug_print
              ((vb.index (vb.word (codes "P") suffix.Absent) (vb.next_arg None false (vb.given (vb.lit (literal.Int (pos 2) false)))
              vb.no_args)) ∷ []) false);
        })) vb.no_nodes)))) (record {
          place = (record { file = 2; line = 29 });
          text = (codes "End Sub");
          form = vb.end_sub;
        })) ∷ []);
    comments = ([]);
  }) ∷ []);
})

abbrev pub declarations : bound.Declarations
declarations = (record {
  project = project;
  names = (
      (record { name = (codes "Make"); scope = (scope.Public 1); named = (named.Proc (record { 0 = 0 })) }) ∷
      (record { name = (codes "n"); scope = (scope.Local (record { 0 = 0 })); named = (named.Var (record { 0 = 0 })) }) ∷
      (record { name = (codes "Make"); scope = (scope.Local (record { 0 = 0 })); named = (named.Var (record { 0 = 1 })) }) ∷
      (record { name = (codes "Main"); scope = (scope.Public 1); named = (named.Proc (record { 0 = 1 })) }) ∷
      (record { name = (codes "a"); scope = (scope.Local (record { 0 = 1 })); named = (named.Var (record { 0 = 2 })) }) ∷
      (record { name = (codes "i"); scope = (scope.Local (record { 0 = 1 })); named = (named.Var (record { 0 = 3 })) }) ∷
      (record { name = (codes "n"); scope = (scope.Local (record { 0 = 1 })); named = (named.Var (record { 0 = 4 })) }) ∷
      (record { name = (codes "k"); scope = (scope.Public 2); named = (named.Var (record { 0 = 5 })) }) ∷
      (record { name = (codes "Child"); scope = (scope.Public 2); named = (named.Var (record { 0 = 6 })) }) ∷
      (record { name = (codes "t"); scope = (scope.Private 2); named = (named.Var (record { 0 = 7 })) }) ∷
      (record { name = (codes "Twice"); scope = (scope.Public 2); named = (named.Proc (record { 0 = 2 })) }) ∷
      (record { name = (codes "n"); scope = (scope.Local (record { 0 = 2 })); named = (named.Var (record { 0 = 8 })) }) ∷
      (record { name = (codes "Twice"); scope = (scope.Local (record { 0 = 2 })); named = (named.Var (record { 0 = 9 })) })
      ∷
      (record { name = (codes "Self"); scope = (scope.Public 2); named = (named.Proc (record { 0 = 3 })) }) ∷
      (record { name = (codes "Self"); scope = (scope.Local (record { 0 = 3 })); named = (named.Var (record { 0 = 10 })) })
      ∷
      (record { name = (codes "P"); scope = (scope.Public 2); named = (named.Proc (record { 0 = 4 })) }) ∷
      (record { name = (codes "i"); scope = (scope.Local (record { 0 = 4 })); named = (named.Var (record { 0 = 11 })) }) ∷
      (record { name = (codes "P"); scope = (scope.Local (record { 0 = 4 })); named = (named.Var (record { 0 = 12 })) }) ∷
      (record { name = (codes "P"); scope = (scope.Public 2); named = (named.Proc (record { 0 = 5 })) }) ∷
      (record { name = (codes "i"); scope = (scope.Local (record { 0 = 5 })); named = (named.Var (record { 0 = 13 })) }) ∷
      (record { name = (codes "v"); scope = (scope.Local (record { 0 = 5 })); named = (named.Var (record { 0 = 14 })) }) ∷
      (record { name = (codes "Work"); scope = (scope.Public 2); named = (named.Proc (record { 0 = 6 })) }) ∷ []);
  vars = (
      (record {
        name = (codes "n");
        place = (record { file = 1; line = 1 });
        statement = 0;
        owner = (owner.Value (record {
          0
              = 0;
        }));
        ty = types.long;
        named = types.long;
        qualified = false;
        lettered = None;
        bounds = ([]);
        auto = false;
        preset
            = None;
      }) ∷
      (record {
        name = (codes "Make");
        place = (record { file = 1; line = 1 });
        statement = 0;
        owner = (owner.Answer (record
            { 0 = 0 }));
        ty = (types.class 0);
        named = (types.class 0);
        qualified = false;
        lettered = None;
        bounds = ([]);
        auto =
            false;
        preset = None;
      }) ∷
      (record {
        name = (codes "a");
        place = (record { file = 1; line = 7 });
        statement = 5;
        owner = (owner.Local (record {
          0
              = 1;
        }));
        ty = (types.array (types.class 0) 1);
        named = (types.array (types.class 0) 1);
        qualified = false;
        lettered =
            None;
        bounds = (((pos 0), (pos 3)) ∷ []);
        auto = false;
        preset = None;
      }) ∷
      (record {
        name = (codes "i");
        place = (record { file = 1; line = 7 });
        statement = 5;
        owner = (owner.Local (record {
          0
              = 1;
        }));
        ty = types.long;
        named = types.long;
        qualified = false;
        lettered = None;
        bounds = ([]);
        auto = false;
        preset
            = None;
      }) ∷
      (record {
        name = (codes "n");
        place = (record { file = 1; line = 7 });
        statement = 5;
        owner = (owner.Local (record {
          0
              = 1;
        }));
        ty = (types.class 0);
        named = (types.class 0);
        qualified = false;
        lettered = None;
        bounds = ([]);
        auto = false;
        preset = None;
      }) ∷
      (record {
        name = (codes "k");
        place = (record { file = 2; line = 4 });
        statement = 0;
        owner = (owner.Module 2);
        ty = types.long;
        named = types.long;
        qualified = false;
        lettered = None;
        bounds = ([]);
        auto = false;
        preset = None;
      }) ∷
      (record {
        name = (codes "Child");
        place = (record { file = 2; line = 5 });
        statement = 1;
        owner = (owner.Module 2);
        ty
            = (types.class 0);
        named = (types.class 0);
        qualified = false;
        lettered = None;
        bounds = ([]);
        auto = false;
        preset =
            None;
      }) ∷
      (record {
        name = (codes "t");
        place = (record { file = 2; line = 6 });
        statement = 2;
        owner = (owner.Module 2);
        ty = (types.array
            types.long 1);
        named = (types.array types.long 1);
        qualified = false;
        lettered = None;
        bounds = (((pos 0), (pos 3)) ∷
            []);
        auto = false;
        preset = None;
      }) ∷
      (record {
        name = (codes "n");
        place = (record { file = 2; line = 8 });
        statement = 3;
        owner = (owner.Value (record {
          0
              = 2;
        }));
        ty = types.long;
        named = types.long;
        qualified = false;
        lettered = None;
        bounds = ([]);
        auto = false;
        preset
            = None;
      }) ∷
      (record {
        name = (codes "Twice");
        place = (record { file = 2; line = 8 });
        statement = 3;
        owner = (owner.Answer (record
            { 0 = 2 }));
        ty = types.long;
        named = types.long;
        qualified = false;
        lettered = None;
        bounds = ([]);
        auto = false;
        preset
            = None;
      }) ∷
      (record {
        name = (codes "Self");
        place = (record { file = 2; line = 12 });
        statement = 6;
        owner = (owner.Answer (record
            { 0 = 3 }));
        ty = (types.class 0);
        named = (types.class 0);
        qualified = false;
        lettered = None;
        bounds = ([]);
        auto =
            false;
        preset = None;
      }) ∷
      (record {
        name = (codes "i");
        place = (record { file = 2; line = 16 });
        statement = 9;
        owner = (owner.Value (record {
          0 = 4;
        }));
        ty = types.long;
        named = types.long;
        qualified = false;
        lettered = None;
        bounds = ([]);
        auto = false;
        preset
            = None;
      }) ∷
      (record {
        name = (codes "P");
        place = (record { file = 2; line = 16 });
        statement = 9;
        owner = (owner.Answer (record {
          0 = 4;
        }));
        ty = types.long;
        named = types.long;
        qualified = false;
        lettered = None;
        bounds = ([]);
        auto = false;
        preset
            = None;
      }) ∷
      (record {
        name = (codes "i");
        place = (record { file = 2; line = 20 });
        statement = 12;
        owner = (owner.Value (record {
          0 = 5;
        }));
        ty = types.long;
        named = types.long;
        qualified = false;
        lettered = None;
        bounds = ([]);
        auto = false;
        preset
            = None;
      }) ∷
      (record {
        name = (codes "v");
        place = (record { file = 2; line = 20 });
        statement = 12;
        owner = (owner.Value (record {
          0 = 5;
        }));
        ty = types.long;
        named = types.long;
        qualified = false;
        lettered = None;
        bounds = ([]);
        auto = false;
        preset
            = None;
      }) ∷ []);
  consts = ([]);
  procs = (
      (record {
        name = (codes "Make");
        place = (record { file = 1; line = 1 });
        module_number = 1;
        kind = kind.Function;
        visibility
            = visible.Public;
        params = ((record { 0 = 0 }) ∷ []);
        result = (types.class 0);
        answer = (Some (record { 0 = 1 }));
        first
            = (record { 0 = 0 });
      }) ∷
      (record {
        name = (codes "Main");
        place = (record { file = 1; line = 6 });
        module_number = 1;
        kind = kind.Sub;
        visibility
            = visible.Public;
        params = ([]);
        result = types.nothing;
        answer = None;
        first = (record { 0 = 1 });
      }) ∷
      (record {
        name = (codes "Twice");
        place = (record { file = 2; line = 8 });
        module_number = 2;
        kind = kind.Function;
        visibility
            = visible.Public;
        params = ((record { 0 = 8 }) ∷ []);
        result = types.long;
        answer = (Some (record { 0 = 9 }));
        first =
            (record { 0 = 2 });
      }) ∷
      (record {
        name = (codes "Self");
        place = (record { file = 2; line = 12 });
        module_number = 2;
        kind = kind.Function;
        visibility
            = visible.Public;
        params = ([]);
        result = (types.class 0);
        answer = (Some (record { 0 = 10 }));
        first = (record {
          0 =
              3;
        });
      }) ∷
      (record {
        name = (codes "P");
        place = (record { file = 2; line = 16 });
        module_number = 2;
        kind = kind.Get;
        visibility
            = visible.Public;
        params = ((record { 0 = 11 }) ∷ []);
        result = types.long;
        answer = (Some (record { 0 = 12 }));
        first
            = (record { 0 = 4 });
      }) ∷
      (record {
        name = (codes "P");
        place = (record { file = 2; line = 20 });
        module_number = 2;
        kind = kind.Let;
        visibility
            = visible.Public;
        params = ((record { 0 = 13 }) ∷ (record { 0 = 14 }) ∷ []);
        result = types.nothing;
        answer = None;
        first
            = (record { 0 = 4 });
      }) ∷
      (record {
        name = (codes "Work");
        place = (record { file = 2; line = 24 });
        module_number = 2;
        kind = kind.Sub;
        visibility
            = visible.Public;
        params = ([]);
        result = types.nothing;
        answer = None;
        first = (record { 0 = 6 });
      }) ∷ []);
  types = ([]);
  enums = ([]);
  defaults = (None ∷ []);
})

abbrev pub body_0 : List bound.Line
body_0 = (
    (record {
      source = (record {
        place = (record { file = 1; line = 2 });
        text = (codes "Set Make = New Node");
        form = (vb.set
            (vb.word (codes "Make") suffix.Absent) (vb.new_object (codes "Node")));
      });
      bindings = (record {
        exprs = ((bound.typed
            (types.class 0) (bound.variable (record { 0 = 1 }) false)) ∷ (bound.typed (types.class 0) (bound.new_object (record {
              0 = 0;
            }))) ∷ []);
        rules = (record { bits = 0 });
        mentions = ((mention.Var (record { 0 = 1 })) ∷ (mention.Class (record
            { 0 = 0 })) ∷ []);
      });
    }) ∷
    (record {
      source = (record {
        place = (record { file = 1; line = 3 });
        text = (codes "Make.k = n");
        form = (vb.assign (vb.member
            (vb.word (codes "Make") suffix.Absent) (codes "k")) (vb.word (codes "n") suffix.Absent));
      });
      bindings = (record {
        exprs
            = ((bound.typed types.long (bound.field (bound.typed (types.class 0) (bound.variable (record { 0 = 1 }) false)) 0)) ∷
            (bound.typed types.long (bound.variable (record { 0 = 0 }) false)) ∷ []);
        rules = (record { bits = 0 });
        mentions = ((mention.Var
            (record { 0 = 5 })) ∷ (mention.Var (record { 0 = 1 })) ∷ (mention.Var (record { 0 = 0 })) ∷ []);
      });
    }) ∷ [])

abbrev pub body_1 : List bound.Line
body_1 = (
    (record {
      source = (record {
        place = (record { file = 1; line = 8 });
        text = (codes "Debug.Print Make(5).k; Make(6).Twice(2); Make(1).Self.k");
        form = (vb.debug_print ((vb.member (vb.index (vb.word (codes "Make") suffix.Absent) (vb.next_arg None false (vb.given
            (vb.lit (literal.Int (pos 5) false))) vb.no_args)) (codes "k")) ∷ (vb.index (vb.member (vb.index (vb.word (codes "Make")
            suffix.Absent) (vb.next_arg None false (vb.given (vb.lit (literal.Int (pos 6) false))) vb.no_args)) (codes "Twice")) (vb.next_arg
            None false (vb.given (vb.lit (literal.Int (pos 2) false))) vb.no_args)) ∷ (vb.member (vb.member (vb.index (vb.word (codes
            "Make") suffix.Absent) (vb.next_arg None false (vb.given (vb.lit (literal.Int (pos 1) false))) vb.no_args)) (codes "Self"))
            (codes "k")) ∷ []) false);
      });
      bindings = (record {
        exprs = ((bound.typed types.long (bound.field (bound.typed (types.class
            0) (bound.call (record { 0 = 0 }) false bound.no_object (bound.next_passed (bound.by_value (bound.typed types.long (bound.convert
            types.long (bound.typed types.integer (bound.constant (value.Int (pos 5)) origin.Literal))))) bound.no_passed))) 0)) ∷
            (bound.typed types.long (bound.call (record { 0 = 2 }) false (bound.of_object (bound.typed (types.class 0) (bound.call
            (record { 0 = 0 }) false bound.no_object (bound.next_passed (bound.by_value (bound.typed types.long (bound.convert types.long
            (bound.typed types.integer (bound.constant (value.Int (pos 6)) origin.Literal))))) bound.no_passed)))) (bound.next_passed
            (bound.by_value (bound.typed types.long (bound.convert types.long (bound.typed types.integer (bound.constant (value.Int
            (pos 2)) origin.Literal))))) bound.no_passed))) ∷ (bound.typed types.long (bound.field (bound.typed (types.class 0) (bound.call
            (record { 0 = 3 }) false (bound.of_object (bound.typed (types.class 0) (bound.call (record { 0 = 0 }) false bound.no_object
            (bound.next_passed (bound.by_value (bound.typed types.long (bound.convert types.long (bound.typed types.integer (bound.constant
            (value.Int (pos 1)) origin.Literal))))) bound.no_passed)))) bound.no_passed)) 0)) ∷ []);
        rules = (record { bits = 0 });
        mentions = ((mention.Var (record { 0 = 5 })) ∷ (mention.Proc (record { 0 = 0 })) ∷ (mention.Proc (record { 0 = 2 })) ∷
            (mention.Proc (record { 0 = 0 })) ∷ (mention.Var (record { 0 = 5 })) ∷ (mention.Proc (record { 0 = 3 })) ∷ (mention.Proc
            (record { 0 = 0 })) ∷ []);
      });
    }) ∷
    (record {
      source = (record {
        place = (record { file = 1; line = 9 });
        text = (codes "Set n = Make(7)");
        form = (vb.set
            (vb.word (codes "n") suffix.Absent) (vb.index (vb.word (codes "Make") suffix.Absent) (vb.next_arg None false (vb.given
            (vb.lit (literal.Int (pos 7) false))) vb.no_args)));
      });
      bindings = (record {
        exprs = ((bound.typed (types.class 0) (bound.variable
            (record { 0 = 4 }) false)) ∷ (bound.typed (types.class 0) (bound.call (record { 0 = 0 }) false bound.no_object (bound.next_passed
            (bound.by_value (bound.typed types.long (bound.convert types.long (bound.typed types.integer (bound.constant (value.Int
            (pos 7)) origin.Literal))))) bound.no_passed))) ∷ []);
        rules = (record { bits = 0 });
        mentions = ((mention.Var (record
            { 0 = 4 })) ∷ (mention.Proc (record { 0 = 0 })) ∷ []);
      });
    }) ∷
    (record {
      source = (record {
        place = (record { file = 1; line = 10 });
        text = (codes "Set a(1) = n");
        form = (vb.set (vb.index
            (vb.word (codes "a") suffix.Absent) (vb.next_arg None false (vb.given (vb.lit (literal.Int (pos 1) false))) vb.no_args))
            (vb.word (codes "n") suffix.Absent));
      });
      bindings = (record {
        exprs = ((bound.typed (types.class 0) (bound.element (bound.typed
            (types.array (types.class 0) 1) (bound.variable (record { 0 = 2 }) false)) (bound.next_expr (bound.typed types.long (bound.convert
            types.long (bound.typed types.integer (bound.constant (value.Int (pos 1)) origin.Literal)))) bound.no_exprs))) ∷ (bound.typed
            (types.class 0) (bound.variable (record { 0 = 4 }) false)) ∷ []);
        rules = (record { bits = 0 });
        mentions = ((mention.Var
            (record { 0 = 2 })) ∷ (mention.Var (record { 0 = 4 })) ∷ []);
      });
    }) ∷
    (record {
      source = (record {
        place = (record { file = 1; line = 11 });
        text = (codes "a(1).k = a(1).k + 1");
        form = (vb.assign
            (vb.member (vb.index (vb.word (codes "a") suffix.Absent) (vb.next_arg None false (vb.given (vb.lit (literal.Int (pos 1)
            false))) vb.no_args)) (codes "k")) (vb.binary bin.Add (vb.member (vb.index (vb.word (codes "a") suffix.Absent) (vb.next_arg
            None false (vb.given (vb.lit (literal.Int (pos 1) false))) vb.no_args)) (codes "k")) (vb.lit (literal.Int (pos 1) false))));
      });
      bindings = (record {
        exprs = ((bound.typed types.long (bound.field (bound.typed (types.class 0) (bound.element (bound.typed
            (types.array (types.class 0) 1) (bound.variable (record { 0 = 2 }) false)) (bound.next_expr (bound.typed types.long (bound.convert
            types.long (bound.typed types.integer (bound.constant (value.Int (pos 1)) origin.Literal)))) bound.no_exprs))) 0)) ∷ (bound.typed
            types.long (bound.binary bin.Add (bound.typed types.long (bound.field (bound.typed (types.class 0) (bound.element (bound.typed
            (types.array (types.class 0) 1) (bound.variable (record { 0 = 2 }) false)) (bound.next_expr (bound.typed types.long (bound.convert
            types.long (bound.typed types.integer (bound.constant (value.Int (pos 1)) origin.Literal)))) bound.no_exprs))) 0)) (bound.typed
            types.long (bound.convert types.long (bound.typed types.integer (bound.constant (value.Int (pos 1)) origin.Literal))))))
            ∷ []);
        rules = (record { bits = 0 });
        mentions = ((mention.Var (record { 0 = 5 })) ∷ (mention.Var (record { 0 = 2 }))
            ∷ (mention.Var (record { 0 = 5 })) ∷ (mention.Var (record { 0 = 2 })) ∷ []);
      });
    }) ∷
    (record {
      source = (record {
        place = (record { file = 1; line = 12 });
        text = (codes "Set n.Child = New Node");
        form =
            (vb.set (vb.member (vb.word (codes "n") suffix.Absent) (codes "Child")) (vb.new_object (codes "Node")));
      });
      bindings =
          (record {
            exprs = ((bound.typed (types.class 0) (bound.field (bound.typed (types.class 0) (bound.variable (record {
              0
                  = 4;
            }) false)) 1)) ∷ (bound.typed (types.class 0) (bound.new_object (record { 0 = 0 }))) ∷ []);
            rules = (record {
              bits
                  = 0;
            });
            mentions = ((mention.Var (record { 0 = 6 })) ∷ (mention.Var (record { 0 = 4 })) ∷ (mention.Class (record {
              0 =
                  0;
            })) ∷ []);
          });
    }) ∷
    (record {
      source = (record {
        place = (record { file = 1; line = 13 });
        text = (codes "n.Child.k = 9");
        form = (vb.assign
            (vb.member (vb.member (vb.word (codes "n") suffix.Absent) (codes "Child")) (codes "k")) (vb.lit (literal.Int (pos 9) false)));
      });
      bindings = (record {
        exprs = ((bound.typed types.long (bound.field (bound.typed (types.class 0) (bound.field (bound.typed
            (types.class 0) (bound.variable (record { 0 = 4 }) false)) 1)) 0)) ∷ (bound.typed types.long (bound.convert types.long
            (bound.typed types.integer (bound.constant (value.Int (pos 9)) origin.Literal)))) ∷ []);
        rules = (record { bits = 0 });
        mentions = ((mention.Var (record { 0 = 5 })) ∷ (mention.Var (record { 0 = 6 })) ∷ (mention.Var (record { 0 = 4 })) ∷ []);
      });
    }) ∷
    (record {
      source = (record {
        place = (record { file = 1; line = 14 });
        text = (codes "a(1).Child.P(2) = 4");
        form = (vb.assign
            (vb.index (vb.member (vb.member (vb.index (vb.word (codes "a") suffix.Absent) (vb.next_arg None false (vb.given (vb.lit
            (literal.Int (pos 1) false))) vb.no_args)) (codes "Child")) (codes "P")) (vb.next_arg None false (vb.given (vb.lit (literal.Int
            (pos 2) false))) vb.no_args)) (vb.lit (literal.Int (pos 4) false)));
      });
      bindings = (record {
        exprs = ((bound.typed types.long
            (bound.call (record { 0 = 5 }) false (bound.of_object (bound.typed (types.class 0) (bound.field (bound.typed (types.class
            0) (bound.element (bound.typed (types.array (types.class 0) 1) (bound.variable (record { 0 = 2 }) false)) (bound.next_expr
            (bound.typed types.long (bound.convert types.long (bound.typed types.integer (bound.constant (value.Int (pos 1)) origin.Literal))))
            bound.no_exprs))) 1))) (bound.next_passed (bound.by_value (bound.typed types.long (bound.convert types.long (bound.typed
            types.integer (bound.constant (value.Int (pos 2)) origin.Literal))))) bound.no_passed))) ∷ (bound.typed types.long (bound.convert
            types.long (bound.typed types.integer (bound.constant (value.Int (pos 4)) origin.Literal)))) ∷ []);
        rules = (record {
          bits = 0;
        });
        mentions = ((mention.Proc (record { 0 = 5 })) ∷ (mention.Var (record { 0 = 6 })) ∷ (mention.Var (record {
          0 = 2;
        })) ∷ []);
      });
    }) ∷
    (record {
      source = (record {
        place = (record { file = 1; line = 15 });
        text = (codes "Debug.Print a(1).k; a(1).Child.k; a(1).Child.P(2); a(i + 1).Twice(3)");
        form = (vb.debug_print ((vb.member (vb.index (vb.word (codes "a") suffix.Absent) (vb.next_arg None false (vb.given (vb.lit
            (literal.Int (pos 1) false))) vb.no_args)) (codes "k")) ∷ (vb.member (vb.member (vb.index (vb.word (codes "a") suffix.Absent)
            (vb.next_arg None false (vb.given (vb.lit (literal.Int (pos 1) false))) vb.no_args)) (codes "Child")) (codes "k")) ∷ (vb.index
            (vb.member (vb.member (vb.index (vb.word (codes "a") suffix.Absent) (vb.next_arg None false (vb.given (vb.lit (literal.Int
            (pos 1) false))) vb.no_args)) (codes "Child")) (codes "P")) (vb.next_arg None false (vb.given (vb.lit (literal.Int (pos
            2) false))) vb.no_args)) ∷ (vb.index (vb.member (vb.index (vb.word (codes "a") suffix.Absent) (vb.next_arg None false
            (vb.given (vb.binary bin.Add (vb.word (codes "i") suffix.Absent) (vb.lit (literal.Int (pos 1) false)))) vb.no_args)) (codes
            "Twice")) (vb.next_arg None false (vb.given (vb.lit (literal.Int (pos 3) false))) vb.no_args)) ∷ []) false);
      });
      bindings
          = (record {
            exprs = ((bound.typed types.long (bound.field (bound.typed (types.class 0) (bound.element (bound.typed (types.array
                (types.class 0) 1) (bound.variable (record { 0 = 2 }) false)) (bound.next_expr (bound.typed types.long (bound.convert
                types.long (bound.typed types.integer (bound.constant (value.Int (pos 1)) origin.Literal)))) bound.no_exprs))) 0)) ∷ (bound.typed
                types.long (bound.field (bound.typed (types.class 0) (bound.field (bound.typed (types.class 0) (bound.element (bound.typed
                (types.array (types.class 0) 1) (bound.variable (record { 0 = 2 }) false)) (bound.next_expr (bound.typed types.long (bound.convert
                types.long (bound.typed types.integer (bound.constant (value.Int (pos 1)) origin.Literal)))) bound.no_exprs))) 1)) 0))
                ∷ (bound.typed types.long (bound.call (record { 0 = 4 }) false (bound.of_object (bound.typed (types.class 0) (bound.field
                (bound.typed (types.class 0) (bound.element (bound.typed (types.array (types.class 0) 1) (bound.variable (record {
                  0 =
                      2;
                }) false)) (bound.next_expr (bound.typed types.long (bound.convert types.long (bound.typed types.integer (bound.constant
                (value.Int (pos 1)) origin.Literal)))) bound.no_exprs))) 1))) (bound.next_passed (bound.by_value (bound.typed types.long
                (bound.convert types.long (bound.typed types.integer (bound.constant (value.Int (pos 2)) origin.Literal))))) bound.no_passed)))
                ∷ (bound.typed types.long (bound.call (record { 0 = 2 }) false (bound.of_object (bound.typed (types.class 0) (bound.element
                (bound.typed (types.array (types.class 0) 1) (bound.variable (record { 0 = 2 }) false)) (bound.next_expr (bound.typed
                types.long (bound.binary bin.Add (bound.typed types.long (bound.variable (record { 0 = 3 }) false)) (bound.typed types.long
                (bound.convert types.long (bound.typed types.integer (bound.constant (value.Int (pos 1)) origin.Literal)))))) bound.no_exprs))))
                (bound.next_passed (bound.by_value (bound.typed types.long (bound.convert types.long (bound.typed types.integer (bound.constant
                (value.Int (pos 3)) origin.Literal))))) bound.no_passed))) ∷ []);
            rules = (record { bits = 0 });
            mentions = ((mention.Var
                (record { 0 = 5 })) ∷ (mention.Var (record { 0 = 2 })) ∷ (mention.Var (record { 0 = 5 })) ∷ (mention.Var (record {
                  0 =
                      6;
                })) ∷ (mention.Var (record { 0 = 2 })) ∷ (mention.Proc (record { 0 = 4 })) ∷ (mention.Var (record { 0 = 6 })) ∷ (mention.Var
                (record { 0 = 2 })) ∷ (mention.Proc (record { 0 = 2 })) ∷ (mention.Var (record { 0 = 2 })) ∷ (mention.Var (record {
                  0
                      = 3;
                })) ∷ []);
          });
    }) ∷
    (record {
      source = (record {
        place = (record { file = 1; line = 16 });
        text = (codes "a(1).Work");
        form = (vb.invoke (vb.member
            (vb.index (vb.word (codes "a") suffix.Absent) (vb.next_arg None false (vb.given (vb.lit (literal.Int (pos 1) false)))
            vb.no_args)) (codes "Work")) vb.no_args);
      });
      bindings = (record {
        exprs = ((bound.typed types.nothing (bound.call (record
            { 0 = 6 }) false (bound.of_object (bound.typed (types.class 0) (bound.element (bound.typed (types.array (types.class 0)
            1) (bound.variable (record { 0 = 2 }) false)) (bound.next_expr (bound.typed types.long (bound.convert types.long (bound.typed
            types.integer (bound.constant (value.Int (pos 1)) origin.Literal)))) bound.no_exprs)))) bound.no_passed)) ∷ []);
        rules
            = (record { bits = 0 });
        mentions = ((mention.Proc (record { 0 = 6 })) ∷ (mention.Var (record { 0 = 2 })) ∷ []);
      });
    })
    ∷
    (record {
      source = (record {
        place = (record { file = 1; line = 17 });
        text = (codes "a(1).Child.Work");
        form = (vb.invoke
            (vb.member (vb.member (vb.index (vb.word (codes "a") suffix.Absent) (vb.next_arg None false (vb.given (vb.lit (literal.Int
            (pos 1) false))) vb.no_args)) (codes "Child")) (codes "Work")) vb.no_args);
      });
      bindings = (record {
        exprs = ((bound.typed
            types.nothing (bound.call (record { 0 = 6 }) false (bound.of_object (bound.typed (types.class 0) (bound.field (bound.typed
            (types.class 0) (bound.element (bound.typed (types.array (types.class 0) 1) (bound.variable (record { 0 = 2 }) false))
            (bound.next_expr (bound.typed types.long (bound.convert types.long (bound.typed types.integer (bound.constant (value.Int
            (pos 1)) origin.Literal)))) bound.no_exprs))) 1))) bound.no_passed)) ∷ []);
        rules = (record { bits = 0 });
        mentions =
            ((mention.Proc (record { 0 = 6 })) ∷ (mention.Var (record { 0 = 6 })) ∷ (mention.Var (record { 0 = 2 })) ∷ []);
      });
    }) ∷
    (record {
      source = (record {
        place = (record { file = 1; line = 18 });
        text = (codes "Make(2).Work");
        form = (vb.invoke
            (vb.member (vb.index (vb.word (codes "Make") suffix.Absent) (vb.next_arg None false (vb.given (vb.lit (literal.Int (pos
            2) false))) vb.no_args)) (codes "Work")) vb.no_args);
      });
      bindings = (record {
        exprs = ((bound.typed types.nothing (bound.call
            (record { 0 = 6 }) false (bound.of_object (bound.typed (types.class 0) (bound.call (record { 0 = 0 }) false bound.no_object
            (bound.next_passed (bound.by_value (bound.typed types.long (bound.convert types.long (bound.typed types.integer (bound.constant
            (value.Int (pos 2)) origin.Literal))))) bound.no_passed)))) bound.no_passed)) ∷ []);
        rules = (record { bits = 0 });
        mentions
            = ((mention.Proc (record { 0 = 6 })) ∷ (mention.Proc (record { 0 = 0 })) ∷ []);
      });
    }) ∷ [])

abbrev pub body_2 : List bound.Line
body_2 = (
    (record {
      source = (record {
        place = (record { file = 2; line = 9 });
        text = (codes "Twice = n * k");
        form = (vb.assign
            (vb.word (codes "Twice") suffix.Absent) (vb.binary bin.Mul (vb.word (codes "n") suffix.Absent) (vb.word (codes "k") suffix.Absent)));
      });
      bindings = (record {
        exprs = ((bound.typed types.long (bound.variable (record { 0 = 9 }) false)) ∷ (bound.typed types.long
            (bound.binary bin.Mul (bound.typed types.long (bound.variable (record { 0 = 8 }) false)) (bound.typed types.long (bound.variable
            (record { 0 = 5 }) false)))) ∷ []);
        rules = (record { bits = 0 });
        mentions = ((mention.Var (record { 0 = 9 })) ∷ (mention.Var
            (record { 0 = 8 })) ∷ (mention.Var (record { 0 = 5 })) ∷ []);
      });
    }) ∷ [])

abbrev pub body_3 : List bound.Line
body_3 = (
    (record {
      source = (record {
        place = (record { file = 2; line = 13 });
        text = (codes "Set Self = Me");
        form = (vb.set
            (vb.word (codes "Self") suffix.Absent) vb.me);
      });
      bindings = (record {
        exprs = ((bound.typed (types.class 0) (bound.variable
            (record { 0 = 10 }) false)) ∷ (bound.typed (types.class 0) bound.me) ∷ []);
        rules = (record { bits = 0 });
        mentions =
            ((mention.Var (record { 0 = 10 })) ∷ []);
      });
    }) ∷ [])

abbrev pub body_4 : List bound.Line
body_4 = (
    (record {
      source = (record {
        place = (record { file = 2; line = 17 });
        text = (codes "P = t(i)");
        form = (vb.assign (vb.word
            (codes "P") suffix.Absent) (vb.index (vb.word (codes "t") suffix.Absent) (vb.next_arg None false (vb.given (vb.word (codes
            "i") suffix.Absent)) vb.no_args)));
      });
      bindings = (record {
        exprs = ((bound.typed types.long (bound.variable (record {
          0 = 12;
        }) false)) ∷ (bound.typed types.long (bound.element (bound.typed (types.array types.long 1) (bound.variable (record
            { 0 = 7 }) false)) (bound.next_expr (bound.typed types.long (bound.variable (record { 0 = 11 }) false)) bound.no_exprs)))
            ∷ []);
        rules = (record { bits = 0 });
        mentions = ((mention.Var (record { 0 = 12 })) ∷ (mention.Var (record { 0 = 7 }))
            ∷ (mention.Var (record { 0 = 11 })) ∷ []);
      });
    }) ∷ [])

abbrev pub body_5 : List bound.Line
body_5 = (
    (record {
      source = (record {
        place = (record { file = 2; line = 21 });
        text = (codes "t(i) = v");
        form = (vb.assign (vb.index
            (vb.word (codes "t") suffix.Absent) (vb.next_arg None false (vb.given (vb.word (codes "i") suffix.Absent)) vb.no_args))
            (vb.word (codes "v") suffix.Absent));
      });
      bindings = (record {
        exprs = ((bound.typed types.long (bound.element (bound.typed
            (types.array types.long 1) (bound.variable (record { 0 = 7 }) false)) (bound.next_expr (bound.typed types.long (bound.variable
            (record { 0 = 13 }) false)) bound.no_exprs))) ∷ (bound.typed types.long (bound.variable (record { 0 = 14 }) false)) ∷
            []);
        rules = (record { bits = 0 });
        mentions = ((mention.Var (record { 0 = 7 })) ∷ (mention.Var (record { 0 = 13 })) ∷
            (mention.Var (record { 0 = 14 })) ∷ []);
      });
    }) ∷ [])

abbrev pub body_6 : List bound.Line
body_6 = (
    (record {
      source = (record {
        place = (record { file = 2; line = 25 });
        text = (68 ∷ 101 ∷ 98 ∷ 117 ∷ 103 ∷ 46 ∷ 80 ∷ 114
            ∷ 105 ∷ 110 ∷ 116 ∷ 32 ∷ 34 ∷ 119 ∷ 111 ∷ 114 ∷ 107 ∷ 34 ∷ 59 ∷ 32 ∷ 107 ∷ 59 ∷ 32 ∷ 77 ∷ 101 ∷ 46 ∷ 107 ∷ 59 ∷ 32 ∷ 77
            ∷ 101 ∷ 46 ∷ 84 ∷ 119 ∷ 105 ∷ 99 ∷ 101 ∷ 40 ∷ 50 ∷ 41 ∷ 59 ∷ 32 ∷ 84 ∷ 119 ∷ 105 ∷ 99 ∷ 101 ∷ 40 ∷ 51 ∷ 41 ∷ 59 ∷ 32 ∷
            77 ∷ 101 ∷ 46 ∷ 80 ∷ 40 ∷ 49 ∷ 41 ∷ []);
        form = (vb.debug_print ((vb.lit (literal.Str (codes "work"))) ∷ (vb.word (codes
            "k") suffix.Absent) ∷ (vb.member vb.me (codes "k")) ∷ (vb.index (vb.member vb.me (codes "Twice")) (vb.next_arg None false
            (vb.given (vb.lit (literal.Int (pos 2) false))) vb.no_args)) ∷ (vb.index (vb.word (codes "Twice") suffix.Absent) (vb.next_arg
            None false (vb.given (vb.lit (literal.Int (pos 3) false))) vb.no_args)) ∷ (vb.index (vb.member vb.me (codes "P")) (vb.next_arg
            None false (vb.given (vb.lit (literal.Int (pos 1) false))) vb.no_args)) ∷ []) false);
      });
      bindings = (record {
        exprs =
            ((bound.typed types.str (bound.constant (value.Str (codes "work")) origin.Literal)) ∷ (bound.typed types.long (bound.variable
            (record { 0 = 5 }) false)) ∷ (bound.typed types.long (bound.field (bound.typed (types.class 0) bound.me) 0)) ∷ (bound.typed
            types.long (bound.call (record { 0 = 2 }) false (bound.of_object (bound.typed (types.class 0) bound.me)) (bound.next_passed
            (bound.by_value (bound.typed types.long (bound.convert types.long (bound.typed types.integer (bound.constant (value.Int
            (pos 2)) origin.Literal))))) bound.no_passed))) ∷ (bound.typed types.long (bound.call (record { 0 = 2 }) false bound.no_object
            (bound.next_passed (bound.by_value (bound.typed types.long (bound.convert types.long (bound.typed types.integer (bound.constant
            (value.Int (pos 3)) origin.Literal))))) bound.no_passed))) ∷ (bound.typed types.long (bound.call (record { 0 = 4 }) false
            (bound.of_object (bound.typed (types.class 0) bound.me)) (bound.next_passed (bound.by_value (bound.typed types.long (bound.convert
            types.long (bound.typed types.integer (bound.constant (value.Int (pos 1)) origin.Literal))))) bound.no_passed))) ∷ []);
        rules = (record { bits = 0 });
        mentions = ((mention.Var (record { 0 = 5 })) ∷ (mention.Var (record { 0 = 5 })) ∷ (mention.Proc
            (record { 0 = 2 })) ∷ (mention.Proc (record { 0 = 2 })) ∷ (mention.Proc (record { 0 = 4 })) ∷ []);
      });
    }) ∷
    (record {
      source = (record {
        place = (record { file = 2; line = 26 });
        text = (codes "Me.P(1) = k");
        form = (vb.assign
            (vb.index (vb.member vb.me (codes "P")) (vb.next_arg None false (vb.given (vb.lit (literal.Int (pos 1) false))) vb.no_args))
            (vb.word (codes "k") suffix.Absent));
      });
      bindings = (record {
        exprs = ((bound.typed types.long (bound.call (record {
          0
              = 5;
        }) false (bound.of_object (bound.typed (types.class 0) bound.me)) (bound.next_passed (bound.by_value (bound.typed
            types.long (bound.convert types.long (bound.typed types.integer (bound.constant (value.Int (pos 1)) origin.Literal)))))
            bound.no_passed))) ∷ (bound.typed types.long (bound.variable (record { 0 = 5 }) false)) ∷ []);
        rules = (record {
          bits
              = 0;
        });
        mentions = ((mention.Proc (record { 0 = 5 })) ∷ (mention.Var (record { 0 = 5 })) ∷ []);
      });
    }) ∷
    (record {
      source = (record {
        place = (record { file = 2; line = 27 });
        text = (codes "P(2) = Me.P(1)");
        form = (vb.assign
            (vb.index (vb.word (codes "P") suffix.Absent) (vb.next_arg None false (vb.given (vb.lit (literal.Int (pos 2) false)))
            vb.no_args)) (vb.index (vb.member vb.me (codes "P")) (vb.next_arg None false (vb.given (vb.lit (literal.Int (pos 1) false)))
            vb.no_args)));
      });
      bindings = (record {
        exprs = ((bound.typed types.long (bound.call (record { 0 = 5 }) false bound.no_object
            (bound.next_passed (bound.by_value (bound.typed types.long (bound.convert types.long (bound.typed types.integer (bound.constant
            (value.Int (pos 2)) origin.Literal))))) bound.no_passed))) ∷ (bound.typed types.long (bound.call (record { 0 = 4 }) false
            (bound.of_object (bound.typed (types.class 0) bound.me)) (bound.next_passed (bound.by_value (bound.typed types.long (bound.convert
            types.long (bound.typed types.integer (bound.constant (value.Int (pos 1)) origin.Literal))))) bound.no_passed))) ∷ []);
        rules = (record { bits = 0 });
        mentions = ((mention.Proc (record { 0 = 5 })) ∷ (mention.Proc (record { 0 = 4 })) ∷ []);
      });
    }) ∷
    (record {
      source = (record {
        place = (record { file = 2; line = 28 });
        text = (codes "Debug.Print P(2)");
        form = (vb.debug_print
            ((vb.index (vb.word (codes "P") suffix.Absent) (vb.next_arg None false (vb.given (vb.lit (literal.Int (pos 2) false)))
            vb.no_args)) ∷ []) false);
      });
      bindings = (record {
        exprs = ((bound.typed types.long (bound.call (record { 0 = 4 }) false
            bound.no_object (bound.next_passed (bound.by_value (bound.typed types.long (bound.convert types.long (bound.typed types.integer
            (bound.constant (value.Int (pos 2)) origin.Literal))))) bound.no_passed))) ∷ []);
        rules = (record { bits = 0 });
        mentions
            = ((mention.Proc (record { 0 = 4 })) ∷ []);
      });
    }) ∷ [])

abbrev pub bodies : List (List bound.Line)
bodies = body_0 ∷ body_1 ∷ body_2 ∷ body_3 ∷ body_4 ∷ body_5 ∷ body_6 ∷ []

abbrev pub program : bound.Program
program = record { declarations = declarations; bodies = bodies }

abbrev pub quiet : List (List Bool)
quiet = ((false ∷ []) ∷ ([]) ∷ (false ∷ []) ∷ ([]) ∷ (false ∷ []) ∷ (false ∷ false ∷ []) ∷ ([]) ∷ [])

abbrev pub lows : List (VarId × ℤ × ℤ)
lows = (((record { 0 = 2 }), (pos 0), (pos 0)) ∷ ((record { 0 = 7 }), (pos 0), (pos 0)) ∷ [])

abbrev pub clean : List Bool
clean = (true ∷ true ∷ true ∷ true ∷ true ∷ true ∷ true ∷ [])

abbrev pub written : net.Project
written = (record {
  library = false;
  main = (Some (codes "Main1"));
  note = None;
  modules = ((record {
    name = (codes "Main1");
    class = false;
    members = (
        (net.proc (record {
          head = (net.function net_visible.Public (codes "Make") ((record {
            passing = net_passing.Value;
            name
                = (codes "n");
            ty = net_types.integer;
          }) ∷ []) (net_types.named ((codes "Node") ∷ [])));
          prologue = ([]);
          lines = (
              (net.assign (net.path ((codes "Make") ∷ [])) (net.new_object (net_types.named ((codes "Node") ∷ [])) net.no_exps)) ∷
              (net.assign (net.path ((codes "Make") ∷ (codes "k") ∷ [])) (net.path ((codes "n") ∷ []))) ∷ []);
          close = close.EndFunction;
        })) ∷
        (net.proc (record {
          head = (net.sub net_visible.Public (codes "Main") ([]));
          prologue = (
              (net.local (record {
                name = (codes "a");
                ty = (net_types.array_of (net_types.named ((codes "Node") ∷ [])) 1);
                value =
                    (Some (net.new_array (net_types.named ((codes "Node") ∷ [])) (net.next_exp (net.lit (net.integer (pos 3) false)) net.no_exps)));
              })) ∷
              (net.local (record { name = (codes "i"); ty = net_types.integer; value = None })) ∷
              (net.local (record { name = (codes "n"); ty = (net_types.named ((codes "Node") ∷ [])); value = None })) ∷ []);
          lines =
              (
              (net.call (net.path ((codes "UpgradeSupport") ∷ (codes "PrintLine") ∷ [])) (net.next_exp (net.binary net_bin.Concat (net.binary
              net_bin.Concat (net.call_of (net.path ((codes "UpgradeSupport") ∷ (codes "PrintNum") ∷ [])) (net.next_exp (net.cast cast.CDec
              (net.dot (net.call_of (net.path ((codes "Make") ∷ [])) (net.next_exp (net.lit (net.integer (pos 5) false)) net.no_exps))
              (codes "k"))) net.no_exps)) (net.call_of (net.path ((codes "UpgradeSupport") ∷ (codes "PrintNum") ∷ [])) (net.next_exp
              (net.cast cast.CDec (net.call_of (net.dot (net.call_of (net.path ((codes "Make") ∷ [])) (net.next_exp (net.lit (net.integer
              (pos 6) false)) net.no_exps)) (codes "Twice")) (net.next_exp (net.lit (net.integer (pos 2) false)) net.no_exps))) net.no_exps)))
              (net.call_of (net.path ((codes "UpgradeSupport") ∷ (codes "PrintNum") ∷ [])) (net.next_exp (net.cast cast.CDec (net.dot
              (net.call_of (net.dot (net.call_of (net.path ((codes "Make") ∷ [])) (net.next_exp (net.lit (net.integer (pos 1) false))
              net.no_exps)) (codes "Self")) net.no_exps) (codes "k"))) net.no_exps))) net.no_exps)) ∷
              (net.assign (net.path ((codes "n") ∷ [])) (net.call_of (net.path ((codes "Make") ∷ [])) (net.next_exp (net.lit (net.integer
              (pos 7) false)) net.no_exps))) ∷
              (net.assign (net.call_of (net.path ((codes "a") ∷ [])) (net.next_exp (net.lit (net.integer (pos 1) false)) net.no_exps))
              (net.path ((codes "n") ∷ []))) ∷
              (net.call (net.path ((codes "UpgradeSupport") ∷ (codes "PutInteger") ∷ [])) (net.next_exp (net.binary net_bin.Add (net.dot
              (net.call_of (net.path ((codes "a") ∷ [])) (net.next_exp (net.lit (net.integer (pos 1) false)) net.no_exps)) (codes "k"))
              (net.lit (net.integer (pos 1) false))) (net.next_exp (net.dot (net.call_of (net.path ((codes "a") ∷ [])) (net.next_exp
              (net.lit (net.integer (pos 1) false)) net.no_exps)) (codes "k")) net.no_exps))) ∷
              (net.assign (net.path ((codes "n") ∷ (codes "Child") ∷ [])) (net.new_object (net_types.named ((codes "Node") ∷ [])) net.no_exps))
              ∷
              (net.assign (net.path ((codes "n") ∷ (codes "Child") ∷ (codes "k") ∷ [])) (net.lit (net.integer (pos 9) false))) ∷
              (net.assign (net.call_of (net.dot (net.dot (net.call_of (net.path ((codes "a") ∷ [])) (net.next_exp (net.lit (net.integer
              (pos 1) false)) net.no_exps)) (codes "Child")) (codes "P")) (net.next_exp (net.lit (net.integer (pos 2) false)) net.no_exps))
              (net.lit (net.integer (pos 4) false))) ∷
              (net.call (net.path ((codes "UpgradeSupport") ∷ (codes "PrintLine") ∷ [])) (net.next_exp (net.binary net_bin.Concat (net.binary
              net_bin.Concat (net.binary net_bin.Concat (net.call_of (net.path ((codes "UpgradeSupport") ∷ (codes "PrintNum") ∷ []))
              (net.next_exp (net.cast cast.CDec (net.dot (net.call_of (net.path ((codes "a") ∷ [])) (net.next_exp (net.lit (net.integer
              (pos 1) false)) net.no_exps)) (codes "k"))) net.no_exps)) (net.call_of (net.path ((codes "UpgradeSupport") ∷ (codes "PrintNum")
              ∷ [])) (net.next_exp (net.cast cast.CDec (net.dot (net.dot (net.call_of (net.path ((codes "a") ∷ [])) (net.next_exp (net.lit
              (net.integer (pos 1) false)) net.no_exps)) (codes "Child")) (codes "k"))) net.no_exps))) (net.call_of (net.path ((codes
              "UpgradeSupport") ∷ (codes "PrintNum") ∷ [])) (net.next_exp (net.cast cast.CDec (net.call_of (net.dot (net.dot (net.call_of
              (net.path ((codes "a") ∷ [])) (net.next_exp (net.lit (net.integer (pos 1) false)) net.no_exps)) (codes "Child")) (codes
              "P")) (net.next_exp (net.lit (net.integer (pos 2) false)) net.no_exps))) net.no_exps))) (net.call_of (net.path ((codes
              "UpgradeSupport") ∷ (codes "PrintNum") ∷ [])) (net.next_exp (net.cast cast.CDec (net.call_of (net.dot (net.call_of (net.path
              ((codes "a") ∷ [])) (net.next_exp (net.binary net_bin.Add (net.path ((codes "i") ∷ [])) (net.lit (net.integer (pos 1)
              false))) net.no_exps)) (codes "Twice")) (net.next_exp (net.lit (net.integer (pos 3) false)) net.no_exps))) net.no_exps)))
              net.no_exps)) ∷
              (net.call (net.dot (net.call_of (net.path ((codes "a") ∷ [])) (net.next_exp (net.lit (net.integer (pos 1) false)) net.no_exps))
              (codes "Work")) net.no_exps) ∷
              (net.call (net.dot (net.dot (net.call_of (net.path ((codes "a") ∷ [])) (net.next_exp (net.lit (net.integer (pos 1) false))
              net.no_exps)) (codes "Child")) (codes "Work")) net.no_exps) ∷
              (net.call (net.dot (net.call_of (net.path ((codes "Make") ∷ [])) (net.next_exp (net.lit (net.integer (pos 2) false)) net.no_exps))
              (codes "Work")) net.no_exps) ∷ []);
          close = close.EndSub;
        })) ∷ []);
  }) ∷ (record {
    name = (codes "Node");
    class = true;
    members = (
        (net.variable net_visible.Public (record { name = (codes "k"); ty = net_types.integer; value = None })) ∷
        (net.variable net_visible.Public (record {
          name = (codes "Child");
          ty = (net_types.named ((codes "Node") ∷ []));
          value
              = None;
        })) ∷
        (net.variable net_visible.Private (record {
          name = (codes "t");
          ty = (net_types.array_of net_types.integer 1);
          value =
              (Some (net.new_array net_types.integer (net.next_exp (net.lit (net.integer (pos 3) false)) net.no_exps)));
        })) ∷
        (net.proc (record {
          head = (net.function net_visible.Public (codes "Twice") ((record {
            passing = net_passing.Value;
            name
                = (codes "n");
            ty = net_types.integer;
          }) ∷ []) net_types.integer);
          prologue = ([]);
          lines = (
              (net.assign (net.path ((codes "Twice") ∷ [])) (net.binary net_bin.Mul (net.path ((codes "n") ∷ [])) (net.path ((codes
              "k") ∷ [])))) ∷ []);
          close = close.EndFunction;
        })) ∷
        (net.proc (record {
          head = (net.function net_visible.Public (codes "Self") ([]) (net_types.named ((codes "Node") ∷ [])));
          prologue = ([]);
          lines = (
              (net.assign (net.path ((codes "Self") ∷ [])) net.me) ∷ []);
          close = close.EndFunction;
        })) ∷
        (net.property (record {
          visibility = net_visible.Public;
          name = (codes "P");
          params = ((record {
            passing = net_passing.Value;
            name = (codes "i");
            ty = net_types.integer;
          }) ∷ []);
          ty = net_types.integer;
          get_comments = ([]);
          get = (Some (record {
            head = net.get_part;
            prologue = ([]);
            lines = (
                (net.assign (net.path ((codes "P") ∷ [])) (net.call_of (net.path ((codes "t") ∷ [])) (net.next_exp (net.path ((codes "i")
                ∷ [])) net.no_exps))) ∷ []);
            close = close.EndGet;
          }));
          set_comments = ([]);
          set = (Some (record {
            head = (net.set_part
                (codes "v") net_types.integer);
            prologue = ([]);
            lines = (
                (net.assign (net.call_of (net.path ((codes "t") ∷ [])) (net.next_exp (net.path ((codes "i") ∷ [])) net.no_exps)) (net.path
                ((codes "v") ∷ []))) ∷ []);
            close = close.EndSet;
          }));
        })) ∷
        (net.proc (record {
          head = (net.sub net_visible.Public (codes "Work") ([]));
          prologue = ([]);
          lines = (
              (net.call (net.path ((codes "UpgradeSupport") ∷ (codes "PrintLine") ∷ [])) (net.next_exp (net.binary net_bin.Concat (net.binary
              net_bin.Concat (net.binary net_bin.Concat (net.binary net_bin.Concat (net.binary net_bin.Concat (net.lit (net.str (codes
              "work"))) (net.call_of (net.path ((codes "UpgradeSupport") ∷ (codes "PrintNum") ∷ [])) (net.next_exp (net.cast cast.CDec
              (net.path ((codes "k") ∷ []))) net.no_exps))) (net.call_of (net.path ((codes "UpgradeSupport") ∷ (codes "PrintNum") ∷
              [])) (net.next_exp (net.cast cast.CDec (net.dot net.me (codes "k"))) net.no_exps))) (net.call_of (net.path ((codes "UpgradeSupport")
              ∷ (codes "PrintNum") ∷ [])) (net.next_exp (net.cast cast.CDec (net.call_of (net.dot net.me (codes "Twice")) (net.next_exp
              (net.lit (net.integer (pos 2) false)) net.no_exps))) net.no_exps))) (net.call_of (net.path ((codes "UpgradeSupport") ∷
              (codes "PrintNum") ∷ [])) (net.next_exp (net.cast cast.CDec (net.call_of (net.path ((codes "Twice") ∷ [])) (net.next_exp
              (net.lit (net.integer (pos 3) false)) net.no_exps))) net.no_exps))) (net.call_of (net.path ((codes "UpgradeSupport") ∷
              (codes "PrintNum") ∷ [])) (net.next_exp (net.cast cast.CDec (net.call_of (net.dot net.me (codes "P")) (net.next_exp (net.lit
              (net.integer (pos 1) false)) net.no_exps))) net.no_exps))) net.no_exps)) ∷
              (net.assign (net.call_of (net.dot net.me (codes "P")) (net.next_exp (net.lit (net.integer (pos 1) false)) net.no_exps))
              (net.path ((codes "k") ∷ []))) ∷
              (net.assign (net.call_of (net.path ((codes "P") ∷ [])) (net.next_exp (net.lit (net.integer (pos 2) false)) net.no_exps))
              (net.call_of (net.dot net.me (codes "P")) (net.next_exp (net.lit (net.integer (pos 1) false)) net.no_exps))) ∷
              (net.call (net.path ((codes "UpgradeSupport") ∷ (codes "PrintLine") ∷ [])) (net.next_exp (net.call_of (net.path ((codes
              "UpgradeSupport") ∷ (codes "PrintNum") ∷ [])) (net.next_exp (net.cast cast.CDec (net.call_of (net.path ((codes "P") ∷
              [])) (net.next_exp (net.lit (net.integer (pos 2) false)) net.no_exps))) net.no_exps)) net.no_exps)) ∷ []);
          close = close.EndSub;
        })) ∷ []);
  }) ∷ []);
  support = (record {
    name = (codes "UpgradeSupport");
    class = false;
    members = (
        (net.proc (record {
          head = (net.sub net_visible.Public (codes "PrintLine") ((record {
            passing = net_passing.Value;
            name
                = (codes "s");
            ty = net_types.str;
          }) ∷ []));
          prologue = ([]);
          lines = (
              (net.call (net.path ((codes "System") ∷ (codes "Console") ∷ (codes "WriteLine") ∷ [])) (net.next_exp (net.path ((codes
              "s") ∷ [])) net.no_exps)) ∷ []);
          close = close.EndSub;
        })) ∷
        (net.proc (record {
          head = (net.function net_visible.Public (codes "CurText") ((record {
            passing = net_passing.Value;
            name = (codes "d");
            ty = net_types.decimal;
          }) ∷ []) net_types.str);
          prologue = ([]);
          lines = (
              (net.assign (net.path ((codes "CurText") ∷ [])) (net.call_of (net.path ((codes "d") ∷ (codes "ToString") ∷ [])) (net.next_exp
              (net.lit (net.str (codes "0.####"))) (net.next_exp (net.path ((codes "System") ∷ (codes "Globalization") ∷ (codes "CultureInfo")
              ∷ (codes "InvariantCulture") ∷ [])) net.no_exps)))) ∷ []);
          close = close.EndFunction;
        })) ∷
        (net.proc (record {
          head = (net.function net_visible.Public (codes "PrintNum") ((record {
            passing = net_passing.Value;
            name = (codes "d");
            ty = net_types.decimal;
          }) ∷ []) net_types.str);
          prologue = ([]);
          lines = (
              (net.if_head (net.binary net_bin.Less (net.path ((codes "d") ∷ [])) (net.lit (net.decimal (pos 0))))) ∷
              (net.assign (net.path ((codes "PrintNum") ∷ [])) (net.binary net_bin.Concat (net.call_of (net.path ((codes "CurText")
              ∷ [])) (net.next_exp (net.path ((codes "d") ∷ [])) net.no_exps)) (net.lit (net.str (codes " "))))) ∷
              net.else_line ∷
              (net.assign (net.path ((codes "PrintNum") ∷ [])) (net.binary net_bin.Concat (net.binary net_bin.Concat (net.lit (net.str
              (codes " "))) (net.call_of (net.path ((codes "CurText") ∷ [])) (net.next_exp (net.path ((codes "d") ∷ [])) net.no_exps)))
              (net.lit (net.str (codes " "))))) ∷
              net.end_if ∷ []);
          close = close.EndFunction;
        })) ∷
        (net.proc (record {
          head = (net.sub net_visible.Public (codes "PutInteger") ((record {
            passing = net_passing.Value;
            name
                = (codes "v");
            ty = net_types.integer;
          }) ∷ (record {
            passing = net_passing.Reference;
            name = (codes "t");
            ty = net_types.integer;
          }) ∷ []));
          prologue = ([]);
          lines = (
              (net.assign (net.path ((codes "t") ∷ [])) (net.path ((codes "v") ∷ []))) ∷ []);
          close = close.EndSub;
        })) ∷ []);
  });
})

abbrev pub runnable : Runnable
runnable = runnable_of program quiet lows

said : ran runnable 1 2000 ≡ (
  line (codes " 5  12  1 ")
      ++ line (codes " 8  9  4  24 ")
      ++ line (codes "work 8  8  16  24  0 ")
      ++ line (codes " 8 ")
      ++ line (codes "work 9  9  18  27  0 ")
      ++ line (codes " 9 ")
      ++ line (codes "work 2  2  4  6  0 ")
      ++ line (codes " 2 "),
  ended,
)
unfolding digits
said = refl

said_written : ran_written written 1 2000 ≡ (
  line (codes " 5  12  1 ")
      ++ line (codes " 8  9  4  24 ")
      ++ line (codes "work 8  8  16  24  0 ")
      ++ line (codes " 8 ")
      ++ line (codes "work 9  9  18  27  0 ")
      ++ line (codes " 9 ")
      ++ line (codes "work 2  2  4  6  0 ")
      ++ line (codes " 2 "),
  ended,
)
unfolding digits
said_written = refl
