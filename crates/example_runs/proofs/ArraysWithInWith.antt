-- The program arrays-with-in-with, what it puts out and how it ends.
use Rattle.std.proofs.Common.{◌≡◌, refl, ◌++◌, List, ℤ, pos, Bool, true, false, [], ◌∷◌, codes, Some, None}
use Rattle.vb_tree.specs.declared.declared.VarId.{VarId}
use Rattle.bound_tree.specs.Tree as bound
use Rattle.net_tree.specs.Tree as net
use Rattle.net_tree.specs.Types as net_types
use Rattle.vb_tree.specs.BoundTree as types
use Rattle.vb_tree.specs.Tree as vb
use Rattle.vb_tree.specs.declared.expression.BinOp.TheVariants as bin
use Rattle.net_tree.specs.declared.expression.CastWord.TheVariants as cast
use Rattle.net_tree.specs.declared.declaration.NetClose.TheVariants as close
use Rattle.vb_tree.specs.declared.declared.ProcKind.TheVariants as kind
use Rattle.vb_tree.specs.declared.token.Literal6.TheVariants as literal
use Rattle.bound_tree.specs.declared.body.Mention.TheVariants as mention
use Rattle.bound_tree.specs.declared.declared.Named.TheVariants as named
use Rattle.net_tree.specs.declared.expression.NetBin.TheVariants as net_bin
use Rattle.net_tree.specs.declared.declaration.NetPassing.TheVariants as net_passing
use Rattle.net_tree.specs.declared.expression.NetUn.TheVariants as net_un
use Rattle.net_tree.specs.declared.declaration.NetVisibility.TheVariants as net_visible
use Rattle.bound_tree.specs.declared.expression.Origin.TheVariants as origin
use Rattle.vb_tree.specs.declared.declared.Owner.TheVariants as owner
use Rattle.vb_tree.specs.declared.form_parts.Passing.TheVariants as passing
use Rattle.vb_tree.specs.declared.project.ProjectKind.TheVariants as project_kind
use Rattle.bound_tree.specs.declared.expression.Root.TheVariants as root
use Rattle.bound_tree.specs.declared.declared.Scope.TheVariants as scope
use Rattle.vb_tree.specs.declared.token.Suffix.TheVariants as suffix
use Rattle.vb_tree.specs.declared.value.Value6.TheVariants as value
use Rattle.vb_tree.specs.declared.form_parts.VarWord.TheVariants as var
use Rattle.vb_tree.specs.declared.form_parts.Visibility.TheVariants as visible
use Rattle.std.specs.Fmt.{digits}
use Rattle.example_runs.proofs.Said.{ended, line, ran, ran_written, runnable_of}
use Rattle.vb6_run.specs.Runnables.{Runnable}

abbrev pub project : vb.Project
project = (record {
  file = (record {
    kind = project_kind.Exe;
    startup = (Some (5, (codes "Sub Main")));
    entries = ((record
        { line = 2; class = false; name = (codes "Main1"); file = (codes "Main1.bas") }) ∷ (record {
          line = 3;
          class = true;
          name
              = (codes "Node");
          file = (codes "Node.cls");
        }) ∷ (record {
          line = 4;
          class = true;
          name = (codes "Node2");
          file = (codes
              "Node2.cls");
        }) ∷ []);
    dropped = ([]);
  });
  modules = ((record {
    file = 1;
    name = (codes "Main1");
    class = false;
    members
        = (
        (vb.group (record {
          place = (record { file = 1; line = 1 });
          text = (codes "Private Type Box");
          form = (vb.type_head (Some
              visible.Private) (codes "Box") suffix.Absent);
        }) ((record {
          place = (record { file = 1; line = 2 });
          text = (codes "N As Long");
          form = (vb.field (codes "N") suffix.Absent None (vb.named (codes "Long")));
        }) ∷ (record {
          place = (record {
            file = 1;
            line = 3;
          });
          text = (codes "T(1 To 3) As Long");
          form = (vb.field (codes "T") suffix.Absent (Some ((record {
            lower = (Some
                (vb.lit (literal.Int (pos 1) false)));
            upper = (vb.lit (literal.Int (pos 3) false));
          }) ∷ [])) (vb.named (codes "Long")));
        }) ∷ []) (record { place = (record { file = 1; line = 4 }); text = (codes "End Type"); form = vb.end_type })) ∷
        (vb.proc (record {
          place = (record { file = 1; line = 6 });
          text = (codes "Sub Inc(n As Long)");
          form = (vb.sub_head (record {
            visibility = None;
            name = (codes "Inc");
            suffix = suffix.Absent;
            params = ((record {
              optional = false;
              passing = passing.Unsaid;
              param_array = false;
              name = (codes "n");
              suffix = suffix.Absent;
              array = false;
              ty = (Some (vb.named (codes "Long")));
              preset = None;
            }) ∷ []);
          }));
        }) (vb.next_node
        (vb.line (record {
          place = (record { file = 1; line = 7 });
          text = (codes "n = n + 1");
          form = (vb.assign (vb.word (codes
              "n") suffix.Absent) (vb.binary bin.Add (vb.word (codes "n") suffix.Absent) (vb.lit (literal.Int (pos 1) false))));
        }))
        vb.no_nodes) (record { place = (record { file = 1; line = 8 }); text = (codes "End Sub"); form = vb.end_sub })) ∷
        (vb.proc (record {
          place = (record { file = 1; line = 10 });
          text = (codes "Function Peek(n As Long) As Long");
          form =
              (vb.function_head (record {
                visibility = None;
                name = (codes "Peek");
                suffix = suffix.Absent;
                params = ((record {
                  optional
                      = false;
                  passing = passing.Unsaid;
                  param_array = false;
                  name = (codes "n");
                  suffix = suffix.Absent;
                  array = false;
                  ty
                      = (Some (vb.named (codes "Long")));
                  preset = None;
                }) ∷ []);
              }) (Some (record {
                ty = (vb.named (codes "Long"));
                array =
                    false;
              })));
        }) (vb.next_node
        (vb.line (record {
          place = (record { file = 1; line = 11 });
          text = (codes "Peek = n");
          form = (vb.assign (vb.word (codes
              "Peek") suffix.Absent) (vb.word (codes "n") suffix.Absent));
        })) vb.no_nodes) (record {
          place = (record {
            file = 1;
            line
                = 12;
          });
          text = (codes "End Function");
          form = vb.end_function;
        })) ∷
        (vb.proc (record {
          place = (record { file = 1; line = 14 });
          text = (codes "Sub Main()");
          form = (vb.sub_head (record
              { visibility = None; name = (codes "Main"); suffix = suffix.Absent; params = ([]) }));
        }) (vb.next_node
        (vb.line (record {
          place = (record { file = 1; line = 15 });
          text = (codes "Dim b As Box, o As Node, i As Long");
          form
              = (vb.variables var.Dim ((record {
                name = (codes "b");
                suffix = suffix.Absent;
                bounds = None;
                auto = false;
                ty = (Some
                    (vb.named (codes "Box")));
              }) ∷ (record {
                name = (codes "o");
                suffix = suffix.Absent;
                bounds = None;
                auto = false;
                ty =
                    (Some (vb.named (codes "Node")));
              }) ∷ (record {
                name = (codes "i");
                suffix = suffix.Absent;
                bounds = None;
                auto = false;
                ty = (Some (vb.named (codes "Long")));
              }) ∷ []));
        })) (vb.next_node
        (vb.block (record {
          place = (record { file = 1; line = 16 });
          text = (codes "With b");
          form = (vb.with_head (vb.word
              (codes "b") suffix.Absent));
        }) (vb.next_node
        (vb.line (record {
          place = (record { file = 1; line = 17 });
          text = (codes ".N = 4");
          form = (vb.assign (vb.with_member
              (codes "N")) (vb.lit (literal.Int (pos 4) false)));
        })) (vb.next_node
        (vb.line (record {
          place = (record { file = 1; line = 18 });
          text = (codes ".T(1) = .N");
          form = (vb.assign (vb.index
              (vb.with_member (codes "T")) (vb.next_arg None false (vb.given (vb.lit (literal.Int (pos 1) false))) vb.no_args)) (vb.with_member
              (codes "N")));
        })) (vb.next_node
        (vb.line (record {
          place = (record { file = 1; line = 19 });
          text = (codes "Call Inc(.N)");
          form = (vb.call (vb.index
              (vb.word (codes "Inc") suffix.Absent) (vb.next_arg None false (vb.given (vb.with_member (codes "N"))) vb.no_args)));
        }))
        (vb.next_node
        (vb.line (record {
          place = (record { file = 1; line = 20 });
          text = (codes "Call Inc(.T(1))");
          form = (vb.call (vb.index
              (vb.word (codes "Inc") suffix.Absent) (vb.next_arg None false (vb.given (vb.index (vb.with_member (codes "T")) (vb.next_arg
              None false (vb.given (vb.lit (literal.Int (pos 1) false))) vb.no_args))) vb.no_args)));
        })) (vb.next_node
        (vb.block (record {
          place = (record { file = 1; line = 21 });
          text = (codes "For i = 1 To 2");
          form = (vb.for_head (vb.word
              (codes "i") suffix.Absent) (vb.lit (literal.Int (pos 1) false)) (vb.lit (literal.Int (pos 2) false)) None);
        }) (vb.next_node
        (vb.line (record {
          place = (record { file = 1; line = 22 });
          text = (codes ".T(i) = .T(i) + i");
          form = (vb.assign (vb.index
              (vb.with_member (codes "T")) (vb.next_arg None false (vb.given (vb.word (codes "i") suffix.Absent)) vb.no_args)) (vb.binary
              bin.Add (vb.index (vb.with_member (codes "T")) (vb.next_arg None false (vb.given (vb.word (codes "i") suffix.Absent))
              vb.no_args)) (vb.word (codes "i") suffix.Absent)));
        })) vb.no_nodes) vb.no_middles (record {
          place = (record {
            file = 1;
            line = 23;
          });
          text = (codes "Next i");
          form = (vb.next (Some ((codes "i"), suffix.Absent)));
        })) (vb.next_node
        (vb.line (record {
          place = (record { file = 1; line = 24 });
          text = (codes "Debug.Print .N; .T(1); .T(2); Peek(.N)");
          form = (vb.debug_print ((vb.with_member (codes "N")) ∷ (vb.index (vb.with_member (codes "T")) (vb.next_arg None false
              (vb.given (vb.lit (literal.Int (pos 1) false))) vb.no_args)) ∷ (vb.index (vb.with_member (codes "T")) (vb.next_arg None
              false (vb.given (vb.lit (literal.Int (pos 2) false))) vb.no_args)) ∷ (vb.index (vb.word (codes "Peek") suffix.Absent)
              (vb.next_arg None false (vb.given (vb.with_member (codes "N"))) vb.no_args)) ∷ []) false);
        })) vb.no_nodes)))))) vb.no_middles
        (record { place = (record { file = 1; line = 25 }); text = (codes "End With"); form = vb.end_with })) (vb.next_node
        (vb.line (record {
          place = (record { file = 1; line = 26 });
          text = (codes "Set o = New Node");
          form = (vb.set (vb.word
              (codes "o") suffix.Absent) (vb.new_object (codes "Node")));
        })) (vb.next_node
        (vb.block (record {
          place = (record { file = 1; line = 27 });
          text = (codes "With o");
          form = (vb.with_head (vb.word
              (codes "o") suffix.Absent));
        }) (vb.next_node
        (vb.line (record {
          place = (record { file = 1; line = 28 });
          text = (codes ".T(1) = 5");
          form = (vb.assign (vb.index
              (vb.with_member (codes "T")) (vb.next_arg None false (vb.given (vb.lit (literal.Int (pos 1) false))) vb.no_args)) (vb.lit
              (literal.Int (pos 5) false)));
        })) (vb.next_node
        (vb.line (record {
          place = (record { file = 1; line = 29 });
          text = (codes "Call Inc(.T(1))");
          form = (vb.call (vb.index
              (vb.word (codes "Inc") suffix.Absent) (vb.next_arg None false (vb.given (vb.index (vb.with_member (codes "T")) (vb.next_arg
              None false (vb.given (vb.lit (literal.Int (pos 1) false))) vb.no_args))) vb.no_args)));
        })) (vb.next_node
        (vb.line (record {
          place = (record { file = 1; line = 30 });
          text = (codes ".Item(2) = 6");
          form = (vb.assign (vb.index
              (vb.with_member (codes "Item")) (vb.next_arg None false (vb.given (vb.lit (literal.Int (pos 2) false))) vb.no_args)) (vb.lit
              (literal.Int (pos 6) false)));
        })) (vb.next_node
        (vb.line (record {
          place = (record { file = 1; line = 31 });
          text = (codes ".Add 3");
          form = (vb.invoke (vb.with_member
              (codes "Add")) (vb.next_arg None false (vb.given (vb.lit (literal.Int (pos 3) false))) vb.no_args));
        })) (vb.next_node
        (vb.line (record {
          place = (record { file = 1; line = 32 });
          text = (codes ".Child.k = 7");
          form = (vb.assign (vb.member
              (vb.with_member (codes "Child")) (codes "k")) (vb.lit (literal.Int (pos 7) false)));
        })) (vb.next_node
        (vb.line (record {
          place = (record { file = 1; line = 33 });
          text = (codes "Debug.Print .T(1); .Item(2); .Sum(1, 2); Peek(.k); .Child.k; .Child.T(1); Peek((.k))");
          form = (vb.debug_print ((vb.index (vb.with_member (codes "T")) (vb.next_arg None false (vb.given (vb.lit (literal.Int
              (pos 1) false))) vb.no_args)) ∷ (vb.index (vb.with_member (codes "Item")) (vb.next_arg None false (vb.given (vb.lit (literal.Int
              (pos 2) false))) vb.no_args)) ∷ (vb.index (vb.with_member (codes "Sum")) (vb.next_arg None false (vb.given (vb.lit (literal.Int
              (pos 1) false))) (vb.next_arg None false (vb.given (vb.lit (literal.Int (pos 2) false))) vb.no_args))) ∷ (vb.index (vb.word
              (codes "Peek") suffix.Absent) (vb.next_arg None false (vb.given (vb.with_member (codes "k"))) vb.no_args)) ∷ (vb.member
              (vb.with_member (codes "Child")) (codes "k")) ∷ (vb.index (vb.member (vb.with_member (codes "Child")) (codes "T")) (vb.next_arg
              None false (vb.given (vb.lit (literal.Int (pos 1) false))) vb.no_args)) ∷ (vb.index (vb.word (codes "Peek") suffix.Absent)
              (vb.next_arg None false (vb.given (vb.paren (vb.with_member (codes "k")))) vb.no_args)) ∷ []) false);
        })) (vb.next_node
        (vb.line (record {
          place = (record { file = 1; line = 34 });
          text = (codes "Set .Other = o");
          form = (vb.set (vb.with_member
              (codes "Other")) (vb.word (codes "o") suffix.Absent));
        })) (vb.next_node
        (vb.line (record {
          place = (record { file = 1; line = 35 });
          text = (codes "Debug.Print .Other Is o");
          form = (vb.debug_print
              ((vb.binary bin.Is (vb.with_member (codes "Other")) (vb.word (codes "o") suffix.Absent)) ∷ []) false);
        })) (vb.next_node
        (vb.block (record {
          place = (record { file = 1; line = 36 });
          text = (codes "With o.Child");
          form = (vb.with_head (vb.member
              (vb.word (codes "o") suffix.Absent) (codes "Child")));
        }) (vb.next_node
        (vb.line (record {
          place = (record { file = 1; line = 37 });
          text = (codes ".k = .k + 1");
          form = (vb.assign (vb.with_member
              (codes "k")) (vb.binary bin.Add (vb.with_member (codes "k")) (vb.lit (literal.Int (pos 1) false))));
        })) (vb.next_node
        (vb.line (record {
          place = (record { file = 1; line = 38 });
          text = (codes "Debug.Print .k; o.Child.k");
          form = (vb.debug_print
              ((vb.with_member (codes "k")) ∷ (vb.member (vb.member (vb.word (codes "o") suffix.Absent) (codes "Child")) (codes "k"))
              ∷ []) false);
        })) vb.no_nodes)) vb.no_middles (record {
          place = (record { file = 1; line = 39 });
          text = (codes "End With");
          form = vb.end_with;
        })) vb.no_nodes))))))))) vb.no_middles (record {
          place = (record { file = 1; line = 40 });
          text = (codes
              "End With");
          form = vb.end_with;
        })) vb.no_nodes)))) (record {
          place = (record { file = 1; line = 41 });
          text = (codes
              "End Sub");
          form = vb.end_sub;
        })) ∷ []);
    comments = ([]);
  }) ∷ (record {
    file = 2;
    name = (codes "Node");
    class = true;
    members = (
        (vb.alone (record {
          place = (record { file = 2; line = 4 });
          text = (codes "Public T(3) As Long");
          form = (vb.variables
              var.Public ((record {
                name = (codes "T");
                suffix = suffix.Absent;
                bounds = (Some ((record {
                  lower = None;
                  upper = (vb.lit
                      (literal.Int (pos 3) false));
                }) ∷ []));
                auto = false;
                ty = (Some (vb.named (codes "Long")));
              }) ∷ []));
        })) ∷
        (vb.alone (record {
          place = (record { file = 2; line = 5 });
          text = (codes "Public k As Long");
          form = (vb.variables var.Public
              ((record {
                name = (codes "k");
                suffix = suffix.Absent;
                bounds = None;
                auto = false;
                ty = (Some (vb.named (codes "Long")));
              }) ∷ []));
        })) ∷
        (vb.alone (record {
          place = (record { file = 2; line = 6 });
          text = (codes "Public Other As Node");
          form = (vb.variables
              var.Public ((record {
                name = (codes "Other");
                suffix = suffix.Absent;
                bounds = None;
                auto = false;
                ty = (Some (vb.named
                    (codes "Node")));
              }) ∷ []));
        })) ∷
        (vb.alone (record {
          place = (record { file = 2; line = 7 });
          text = (codes "Public Child As Node2");
          form = (vb.variables
              var.Public ((record {
                name = (codes "Child");
                suffix = suffix.Absent;
                bounds = None;
                auto = false;
                ty = (Some (vb.named
                    (codes "Node2")));
              }) ∷ []));
        })) ∷
        (vb.proc (record {
          place = (record { file = 2; line = 9 });
          text = (codes "Private Sub Class_Initialize()");
          form = (vb.sub_head
              (record {
                visibility = (Some visible.Private);
                name = (codes "Class_Initialize");
                suffix = suffix.Absent;
                params = ([]);
              }));
        }) (vb.next_node
        (vb.line (record {
          place = (record { file = 2; line = 10 });
          text = (codes "Set Child = New Node2");
          form = (vb.set
              (vb.word (codes "Child") suffix.Absent) (vb.new_object (codes "Node2")));
        })) vb.no_nodes) (record {
          place = (record {
            file = 2;
            line = 11;
          });
          text = (codes "End Sub");
          form = vb.end_sub;
        })) ∷
        (vb.proc (record {
          place = (record { file = 2; line = 13 });
          text = (codes "Public Property Get Item(ByVal i As Long) As Long");
          form = (vb.get_head (record {
            visibility = (Some visible.Public);
            name = (codes "Item");
            suffix = suffix.Absent;
            params
                = ((record {
                  optional = false;
                  passing = passing.Value;
                  param_array = false;
                  name = (codes "i");
                  suffix = suffix.Absent;
                  array = false;
                  ty = (Some (vb.named (codes "Long")));
                  preset = None;
                }) ∷ []);
          }) (Some (record {
            ty = (vb.named (codes
                "Long"));
            array = false;
          })));
        }) (vb.next_node
        (vb.line (record {
          place = (record { file = 2; line = 14 });
          text = (codes "Item = T(i)");
          form = (vb.assign (vb.word
              (codes "Item") suffix.Absent) (vb.index (vb.word (codes "T") suffix.Absent) (vb.next_arg None false (vb.given (vb.word
              (codes "i") suffix.Absent)) vb.no_args)));
        })) vb.no_nodes) (record {
          place = (record { file = 2; line = 15 });
          text =
              (codes "End Property");
          form = vb.end_property;
        })) ∷
        (vb.proc (record {
          place = (record { file = 2; line = 17 });
          text = (codes "Public Property Let Item(ByVal i As Long, ByVal v As Long)");
          form = (vb.let_head (record {
            visibility = (Some visible.Public);
            name = (codes "Item");
            suffix = suffix.Absent;
            params
                = ((record {
                  optional = false;
                  passing = passing.Value;
                  param_array = false;
                  name = (codes "i");
                  suffix = suffix.Absent;
                  array = false;
                  ty = (Some (vb.named (codes "Long")));
                  preset = None;
                }) ∷ (record {
                  optional = false;
                  passing = passing.Value;
                  param_array = false;
                  name = (codes "v");
                  suffix = suffix.Absent;
                  array = false;
                  ty = (Some (vb.named (codes "Long")));
                  preset = None;
                }) ∷ []);
          }));
        }) (vb.next_node
        (vb.line (record {
          place = (record { file = 2; line = 18 });
          text = (codes "T(i) = v");
          form = (vb.assign (vb.index
              (vb.word (codes "T") suffix.Absent) (vb.next_arg None false (vb.given (vb.word (codes "i") suffix.Absent)) vb.no_args))
              (vb.word (codes "v") suffix.Absent));
        })) vb.no_nodes) (record {
          place = (record { file = 2; line = 19 });
          text = (codes
              "End Property");
          form = vb.end_property;
        })) ∷
        (vb.proc (record {
          place = (record { file = 2; line = 21 });
          text = (codes "Public Sub Add(ByVal n As Long)");
          form =
              (vb.sub_head (record {
                visibility = (Some visible.Public);
                name = (codes "Add");
                suffix = suffix.Absent;
                params = ((record {
                  optional = false;
                  passing = passing.Value;
                  param_array = false;
                  name = (codes "n");
                  suffix = suffix.Absent;
                  array =
                      false;
                  ty = (Some (vb.named (codes "Long")));
                  preset = None;
                }) ∷ []);
              }));
        }) (vb.next_node
        (vb.line (record {
          place = (record { file = 2; line = 22 });
          text = (codes "k = k + n");
          form = (vb.assign (vb.word
              (codes "k") suffix.Absent) (vb.binary bin.Add (vb.word (codes "k") suffix.Absent) (vb.word (codes "n") suffix.Absent)));
        })) vb.no_nodes) (record { place = (record { file = 2; line = 23 }); text = (codes "End Sub"); form = vb.end_sub })) ∷
        (vb.proc (record {
          place = (record { file = 2; line = 25 });
          text = (codes "Public Function Sum(ByVal i As Long, ByVal j As Long) As Long");
          form = (vb.function_head (record {
            visibility = (Some visible.Public);
            name = (codes "Sum");
            suffix = suffix.Absent;
            params
                = ((record {
                  optional = false;
                  passing = passing.Value;
                  param_array = false;
                  name = (codes "i");
                  suffix = suffix.Absent;
                  array = false;
                  ty = (Some (vb.named (codes "Long")));
                  preset = None;
                }) ∷ (record {
                  optional = false;
                  passing = passing.Value;
                  param_array = false;
                  name = (codes "j");
                  suffix = suffix.Absent;
                  array = false;
                  ty = (Some (vb.named (codes "Long")));
                  preset = None;
                }) ∷ []);
          }) (Some (record { ty = (vb.named (codes "Long")); array = false })));
        }) (vb.next_node
        (vb.line (record {
          place = (record { file = 2; line = 26 });
          text = (codes "Sum = T(i) + T(j)");
          form = (vb.assign (vb.word
              (codes "Sum") suffix.Absent) (vb.binary bin.Add (vb.index (vb.word (codes "T") suffix.Absent) (vb.next_arg None false
              (vb.given (vb.word (codes "i") suffix.Absent)) vb.no_args)) (vb.index (vb.word (codes "T") suffix.Absent) (vb.next_arg
              None false (vb.given (vb.word (codes "j") suffix.Absent)) vb.no_args))));
        })) vb.no_nodes) (record {
          place = (record {
            file = 2;
            line = 27;
          });
          text = (codes "End Function");
          form = vb.end_function;
        })) ∷ []);
    comments = ([]);
  }) ∷ (record {
    file = 3;
    name = (codes "Node2");
    class = true;
    members = (
        (vb.alone (record {
          place = (record { file = 3; line = 4 });
          text = (codes "Public k As Long");
          form = (vb.variables var.Public
              ((record {
                name = (codes "k");
                suffix = suffix.Absent;
                bounds = None;
                auto = false;
                ty = (Some (vb.named (codes "Long")));
              }) ∷ []));
        })) ∷
        (vb.alone (record {
          place = (record { file = 3; line = 5 });
          text = (codes "Public T(2) As Long");
          form = (vb.variables
              var.Public ((record {
                name = (codes "T");
                suffix = suffix.Absent;
                bounds = (Some ((record {
                  lower = None;
                  upper = (vb.lit
                      (literal.Int (pos 2) false));
                }) ∷ []));
                auto = false;
                ty = (Some (vb.named (codes "Long")));
              }) ∷ []));
        })) ∷ []);
    comments
        = ([]);
  }) ∷ []);
})

abbrev pub declarations : bound.Declarations
declarations = (record {
  project = project;
  names = (
      (record { name = (codes "Box"); scope = (scope.Private 1); named = (named.Type (record { 0 = 0 })) }) ∷
      (record { name = (codes "Inc"); scope = (scope.Public 1); named = (named.Proc (record { 0 = 0 })) }) ∷
      (record { name = (codes "n"); scope = (scope.Local (record { 0 = 0 })); named = (named.Var (record { 0 = 2 })) }) ∷
      (record { name = (codes "Peek"); scope = (scope.Public 1); named = (named.Proc (record { 0 = 1 })) }) ∷
      (record { name = (codes "n"); scope = (scope.Local (record { 0 = 1 })); named = (named.Var (record { 0 = 3 })) }) ∷
      (record { name = (codes "Peek"); scope = (scope.Local (record { 0 = 1 })); named = (named.Var (record { 0 = 4 })) }) ∷
      (record { name = (codes "Main"); scope = (scope.Public 1); named = (named.Proc (record { 0 = 2 })) }) ∷
      (record { name = (codes "b"); scope = (scope.Local (record { 0 = 2 })); named = (named.Var (record { 0 = 5 })) }) ∷
      (record { name = (codes "o"); scope = (scope.Local (record { 0 = 2 })); named = (named.Var (record { 0 = 6 })) }) ∷
      (record { name = (codes "i"); scope = (scope.Local (record { 0 = 2 })); named = (named.Var (record { 0 = 7 })) }) ∷
      (record { name = (codes "T"); scope = (scope.Public 2); named = (named.Var (record { 0 = 8 })) }) ∷
      (record { name = (codes "k"); scope = (scope.Public 2); named = (named.Var (record { 0 = 9 })) }) ∷
      (record { name = (codes "Other"); scope = (scope.Public 2); named = (named.Var (record { 0 = 10 })) }) ∷
      (record { name = (codes "Child"); scope = (scope.Public 2); named = (named.Var (record { 0 = 11 })) }) ∷
      (record { name = (codes "Class_Initialize"); scope = (scope.Private 2); named = (named.Proc (record { 0 = 3 })) }) ∷
      (record { name = (codes "Item"); scope = (scope.Public 2); named = (named.Proc (record { 0 = 4 })) }) ∷
      (record { name = (codes "i"); scope = (scope.Local (record { 0 = 4 })); named = (named.Var (record { 0 = 12 })) }) ∷
      (record { name = (codes "Item"); scope = (scope.Local (record { 0 = 4 })); named = (named.Var (record { 0 = 13 })) })
      ∷
      (record { name = (codes "Item"); scope = (scope.Public 2); named = (named.Proc (record { 0 = 5 })) }) ∷
      (record { name = (codes "i"); scope = (scope.Local (record { 0 = 5 })); named = (named.Var (record { 0 = 14 })) }) ∷
      (record { name = (codes "v"); scope = (scope.Local (record { 0 = 5 })); named = (named.Var (record { 0 = 15 })) }) ∷
      (record { name = (codes "Add"); scope = (scope.Public 2); named = (named.Proc (record { 0 = 6 })) }) ∷
      (record { name = (codes "n"); scope = (scope.Local (record { 0 = 6 })); named = (named.Var (record { 0 = 16 })) }) ∷
      (record { name = (codes "Sum"); scope = (scope.Public 2); named = (named.Proc (record { 0 = 7 })) }) ∷
      (record { name = (codes "i"); scope = (scope.Local (record { 0 = 7 })); named = (named.Var (record { 0 = 17 })) }) ∷
      (record { name = (codes "j"); scope = (scope.Local (record { 0 = 7 })); named = (named.Var (record { 0 = 18 })) }) ∷
      (record { name = (codes "Sum"); scope = (scope.Local (record { 0 = 7 })); named = (named.Var (record { 0 = 19 })) }) ∷
      (record { name = (codes "k"); scope = (scope.Public 3); named = (named.Var (record { 0 = 20 })) }) ∷
      (record { name = (codes "T"); scope = (scope.Public 3); named = (named.Var (record { 0 = 21 })) }) ∷ []);
  vars = (
      (record {
        name = (codes "N");
        place = (record { file = 1; line = 2 });
        statement = 1;
        owner = (owner.Field (record {
          0
              = 0;
        }));
        ty = types.long;
        named = types.long;
        qualified = false;
        lettered = None;
        bounds = ([]);
        auto = false;
        preset
            = None;
      }) ∷
      (record {
        name = (codes "T");
        place = (record { file = 1; line = 3 });
        statement = 2;
        owner = (owner.Field (record {
          0
              = 0;
        }));
        ty = (types.array types.long 1);
        named = (types.array types.long 1);
        qualified = false;
        lettered = None;
        bounds
            = (((pos 1), (pos 3)) ∷ []);
        auto = false;
        preset = None;
      }) ∷
      (record {
        name = (codes "n");
        place = (record { file = 1; line = 6 });
        statement = 4;
        owner = (owner.Reference (record
            { 0 = 0 }));
        ty = types.long;
        named = types.long;
        qualified = false;
        lettered = None;
        bounds = ([]);
        auto = false;
        preset
            = None;
      }) ∷
      (record {
        name = (codes "n");
        place = (record { file = 1; line = 10 });
        statement = 7;
        owner = (owner.Reference (record
            { 0 = 1 }));
        ty = types.long;
        named = types.long;
        qualified = false;
        lettered = None;
        bounds = ([]);
        auto = false;
        preset
            = None;
      }) ∷
      (record {
        name = (codes "Peek");
        place = (record { file = 1; line = 10 });
        statement = 7;
        owner = (owner.Answer (record
            { 0 = 1 }));
        ty = types.long;
        named = types.long;
        qualified = false;
        lettered = None;
        bounds = ([]);
        auto = false;
        preset
            = None;
      }) ∷
      (record {
        name = (codes "b");
        place = (record { file = 1; line = 15 });
        statement = 11;
        owner = (owner.Local (record {
          0 = 2;
        }));
        ty = (types.user 0);
        named = (types.user 0);
        qualified = false;
        lettered = None;
        bounds = ([]);
        auto = false;
        preset = None;
      }) ∷
      (record {
        name = (codes "o");
        place = (record { file = 1; line = 15 });
        statement = 11;
        owner = (owner.Local (record {
          0 = 2;
        }));
        ty = (types.class 0);
        named = (types.class 0);
        qualified = false;
        lettered = None;
        bounds = ([]);
        auto = false;
        preset = None;
      }) ∷
      (record {
        name = (codes "i");
        place = (record { file = 1; line = 15 });
        statement = 11;
        owner = (owner.Local (record {
          0 = 2;
        }));
        ty = types.long;
        named = types.long;
        qualified = false;
        lettered = None;
        bounds = ([]);
        auto = false;
        preset
            = None;
      }) ∷
      (record {
        name = (codes "T");
        place = (record { file = 2; line = 4 });
        statement = 0;
        owner = (owner.Module 2);
        ty = (types.array
            types.long 1);
        named = (types.array types.long 1);
        qualified = false;
        lettered = None;
        bounds = (((pos 0), (pos 3)) ∷
            []);
        auto = false;
        preset = None;
      }) ∷
      (record {
        name = (codes "k");
        place = (record { file = 2; line = 5 });
        statement = 1;
        owner = (owner.Module 2);
        ty = types.long;
        named = types.long;
        qualified = false;
        lettered = None;
        bounds = ([]);
        auto = false;
        preset = None;
      }) ∷
      (record {
        name = (codes "Other");
        place = (record { file = 2; line = 6 });
        statement = 2;
        owner = (owner.Module 2);
        ty
            = (types.class 0);
        named = (types.class 0);
        qualified = false;
        lettered = None;
        bounds = ([]);
        auto = false;
        preset =
            None;
      }) ∷
      (record {
        name = (codes "Child");
        place = (record { file = 2; line = 7 });
        statement = 3;
        owner = (owner.Module 2);
        ty
            = (types.class 1);
        named = (types.class 1);
        qualified = false;
        lettered = None;
        bounds = ([]);
        auto = false;
        preset =
            None;
      }) ∷
      (record {
        name = (codes "i");
        place = (record { file = 2; line = 13 });
        statement = 7;
        owner = (owner.Value (record {
          0 = 4;
        }));
        ty = types.long;
        named = types.long;
        qualified = false;
        lettered = None;
        bounds = ([]);
        auto = false;
        preset
            = None;
      }) ∷
      (record {
        name = (codes "Item");
        place = (record { file = 2; line = 13 });
        statement = 7;
        owner = (owner.Answer (record
            { 0 = 4 }));
        ty = types.long;
        named = types.long;
        qualified = false;
        lettered = None;
        bounds = ([]);
        auto = false;
        preset
            = None;
      }) ∷
      (record {
        name = (codes "i");
        place = (record { file = 2; line = 17 });
        statement = 10;
        owner = (owner.Value (record {
          0 = 5;
        }));
        ty = types.long;
        named = types.long;
        qualified = false;
        lettered = None;
        bounds = ([]);
        auto = false;
        preset
            = None;
      }) ∷
      (record {
        name = (codes "v");
        place = (record { file = 2; line = 17 });
        statement = 10;
        owner = (owner.Value (record {
          0 = 5;
        }));
        ty = types.long;
        named = types.long;
        qualified = false;
        lettered = None;
        bounds = ([]);
        auto = false;
        preset
            = None;
      }) ∷
      (record {
        name = (codes "n");
        place = (record { file = 2; line = 21 });
        statement = 13;
        owner = (owner.Value (record {
          0 = 6;
        }));
        ty = types.long;
        named = types.long;
        qualified = false;
        lettered = None;
        bounds = ([]);
        auto = false;
        preset
            = None;
      }) ∷
      (record {
        name = (codes "i");
        place = (record { file = 2; line = 25 });
        statement = 16;
        owner = (owner.Value (record {
          0 = 7;
        }));
        ty = types.long;
        named = types.long;
        qualified = false;
        lettered = None;
        bounds = ([]);
        auto = false;
        preset
            = None;
      }) ∷
      (record {
        name = (codes "j");
        place = (record { file = 2; line = 25 });
        statement = 16;
        owner = (owner.Value (record {
          0 = 7;
        }));
        ty = types.long;
        named = types.long;
        qualified = false;
        lettered = None;
        bounds = ([]);
        auto = false;
        preset
            = None;
      }) ∷
      (record {
        name = (codes "Sum");
        place = (record { file = 2; line = 25 });
        statement = 16;
        owner = (owner.Answer (record
            { 0 = 7 }));
        ty = types.long;
        named = types.long;
        qualified = false;
        lettered = None;
        bounds = ([]);
        auto = false;
        preset
            = None;
      }) ∷
      (record {
        name = (codes "k");
        place = (record { file = 3; line = 4 });
        statement = 0;
        owner = (owner.Module 3);
        ty = types.long;
        named = types.long;
        qualified = false;
        lettered = None;
        bounds = ([]);
        auto = false;
        preset = None;
      }) ∷
      (record {
        name = (codes "T");
        place = (record { file = 3; line = 5 });
        statement = 1;
        owner = (owner.Module 3);
        ty = (types.array
            types.long 1);
        named = (types.array types.long 1);
        qualified = false;
        lettered = None;
        bounds = (((pos 0), (pos 2)) ∷
            []);
        auto = false;
        preset = None;
      }) ∷ []);
  consts = ([]);
  procs = (
      (record {
        name = (codes "Inc");
        place = (record { file = 1; line = 6 });
        module_number = 1;
        kind = kind.Sub;
        visibility
            = visible.Public;
        params = ((record { 0 = 2 }) ∷ []);
        result = types.nothing;
        answer = None;
        first = (record { 0 = 0 });
      }) ∷
      (record {
        name = (codes "Peek");
        place = (record { file = 1; line = 10 });
        module_number = 1;
        kind = kind.Function;
        visibility
            = visible.Public;
        params = ((record { 0 = 3 }) ∷ []);
        result = types.long;
        answer = (Some (record { 0 = 4 }));
        first =
            (record { 0 = 1 });
      }) ∷
      (record {
        name = (codes "Main");
        place = (record { file = 1; line = 14 });
        module_number = 1;
        kind = kind.Sub;
        visibility
            = visible.Public;
        params = ([]);
        result = types.nothing;
        answer = None;
        first = (record { 0 = 2 });
      }) ∷
      (record {
        name = (codes "Class_Initialize");
        place = (record { file = 2; line = 9 });
        module_number = 2;
        kind = kind.Sub;
        visibility = visible.Private;
        params = ([]);
        result = types.nothing;
        answer = None;
        first = (record { 0 = 3 });
      }) ∷
      (record {
        name = (codes "Item");
        place = (record { file = 2; line = 13 });
        module_number = 2;
        kind = kind.Get;
        visibility
            = visible.Public;
        params = ((record { 0 = 12 }) ∷ []);
        result = types.long;
        answer = (Some (record { 0 = 13 }));
        first
            = (record { 0 = 4 });
      }) ∷
      (record {
        name = (codes "Item");
        place = (record { file = 2; line = 17 });
        module_number = 2;
        kind = kind.Let;
        visibility
            = visible.Public;
        params = ((record { 0 = 14 }) ∷ (record { 0 = 15 }) ∷ []);
        result = types.nothing;
        answer = None;
        first
            = (record { 0 = 4 });
      }) ∷
      (record {
        name = (codes "Add");
        place = (record { file = 2; line = 21 });
        module_number = 2;
        kind = kind.Sub;
        visibility
            = visible.Public;
        params = ((record { 0 = 16 }) ∷ []);
        result = types.nothing;
        answer = None;
        first = (record {
          0 = 6;
        });
      }) ∷
      (record {
        name = (codes "Sum");
        place = (record { file = 2; line = 25 });
        module_number = 2;
        kind = kind.Function;
        visibility
            = visible.Public;
        params = ((record { 0 = 17 }) ∷ (record { 0 = 18 }) ∷ []);
        result = types.long;
        answer = (Some (record
            { 0 = 19 }));
        first = (record { 0 = 7 });
      }) ∷ []);
  types = (
      (record {
        name = (codes "Box");
        place = (record { file = 1; line = 1 });
        «module» = 1;
        fields = ((record { 0 = 0 }) ∷
            (record { 0 = 1 }) ∷ []);
      }) ∷ []);
  enums = ([]);
  defaults = (None ∷ None ∷ []);
})

abbrev pub body_0 : List bound.Line
body_0 = (
    (record {
      source = (record {
        place = (record { file = 1; line = 7 });
        text = (codes "n = n + 1");
        form = (vb.assign (vb.word
            (codes "n") suffix.Absent) (vb.binary bin.Add (vb.word (codes "n") suffix.Absent) (vb.lit (literal.Int (pos 1) false))));
      });
      bindings = (record {
        exprs = ((bound.typed types.long (bound.variable (record { 0 = 2 }) false)) ∷ (bound.typed types.long
            (bound.binary bin.Add (bound.typed types.long (bound.variable (record { 0 = 2 }) false)) (bound.typed types.long (bound.convert
            types.long (bound.typed types.integer (bound.constant (value.Int (pos 1)) origin.Literal)))))) ∷ []);
        rules = (record
            { bits = 0 });
        mentions = ((mention.Var (record { 0 = 2 })) ∷ (mention.Var (record { 0 = 2 })) ∷ []);
      });
    }) ∷ [])

abbrev pub body_1 : List bound.Line
body_1 = (
    (record {
      source = (record {
        place = (record { file = 1; line = 11 });
        text = (codes "Peek = n");
        form = (vb.assign (vb.word
            (codes "Peek") suffix.Absent) (vb.word (codes "n") suffix.Absent));
      });
      bindings = (record {
        exprs = ((bound.typed types.long
            (bound.variable (record { 0 = 4 }) false)) ∷ (bound.typed types.long (bound.variable (record { 0 = 3 }) false)) ∷ []);
        rules = (record { bits = 0 });
        mentions = ((mention.Var (record { 0 = 4 })) ∷ (mention.Var (record { 0 = 3 })) ∷ []);
      });
    }) ∷ [])

abbrev pub body_2 : List bound.Line
body_2 = (
    (record {
      source = (record {
        place = (record { file = 1; line = 16 });
        text = (codes "With b");
        form = (vb.with_head (vb.word
            (codes "b") suffix.Absent));
      });
      bindings = (record {
        exprs = ((bound.typed (types.user 0) (bound.variable (record {
          0
              = 5;
        }) false)) ∷ []);
        rules = (record { bits = 0 });
        mentions = ((mention.Var (record { 0 = 5 })) ∷ []);
      });
    }) ∷
    (record {
      source = (record {
        place = (record { file = 1; line = 17 });
        text = (codes ".N = 4");
        form = (vb.assign (vb.with_member
            (codes "N")) (vb.lit (literal.Int (pos 4) false)));
      });
      bindings = (record {
        exprs = ((bound.typed types.long (bound.field
            (bound.typed (types.user 0) (bound.with_object (root.Variable (record { 0 = 5 })))) 0)) ∷ (bound.typed types.long (bound.convert
            types.long (bound.typed types.integer (bound.constant (value.Int (pos 4)) origin.Literal)))) ∷ []);
        rules = (record {
          bits = 0;
        });
        mentions = ((mention.Var (record { 0 = 0 })) ∷ []);
      });
    }) ∷
    (record {
      source = (record {
        place = (record { file = 1; line = 18 });
        text = (codes ".T(1) = .N");
        form = (vb.assign
            (vb.index (vb.with_member (codes "T")) (vb.next_arg None false (vb.given (vb.lit (literal.Int (pos 1) false))) vb.no_args))
            (vb.with_member (codes "N")));
      });
      bindings = (record {
        exprs = ((bound.typed types.long (bound.element (bound.typed (types.array
            types.long 1) (bound.field (bound.typed (types.user 0) (bound.with_object (root.Variable (record { 0 = 5 })))) 1)) (bound.next_expr
            (bound.typed types.long (bound.convert types.long (bound.typed types.integer (bound.constant (value.Int (pos 1)) origin.Literal))))
            bound.no_exprs))) ∷ (bound.typed types.long (bound.field (bound.typed (types.user 0) (bound.with_object (root.Variable
            (record { 0 = 5 })))) 0)) ∷ []);
        rules = (record { bits = 0 });
        mentions = ((mention.Var (record { 0 = 1 })) ∷ (mention.Var
            (record { 0 = 0 })) ∷ []);
      });
    }) ∷
    (record {
      source = (record {
        place = (record { file = 1; line = 19 });
        text = (codes "Call Inc(.N)");
        form = (vb.call
            (vb.index (vb.word (codes "Inc") suffix.Absent) (vb.next_arg None false (vb.given (vb.with_member (codes "N"))) vb.no_args)));
      });
      bindings = (record {
        exprs = ((bound.typed types.nothing (bound.call (record { 0 = 0 }) false bound.no_object (bound.next_passed
            (bound.by_reference (bound.typed types.long (bound.field (bound.typed (types.user 0) (bound.with_object (root.Variable
            (record { 0 = 5 })))) 0))) bound.no_passed))) ∷ []);
        rules = (record { bits = 0 });
        mentions = ((mention.Proc (record
            { 0 = 0 })) ∷ (mention.Var (record { 0 = 0 })) ∷ []);
      });
    }) ∷
    (record {
      source = (record {
        place = (record { file = 1; line = 20 });
        text = (codes "Call Inc(.T(1))");
        form = (vb.call
            (vb.index (vb.word (codes "Inc") suffix.Absent) (vb.next_arg None false (vb.given (vb.index (vb.with_member (codes "T"))
            (vb.next_arg None false (vb.given (vb.lit (literal.Int (pos 1) false))) vb.no_args))) vb.no_args)));
      });
      bindings = (record {
        exprs = ((bound.typed types.nothing (bound.call (record { 0 = 0 }) false bound.no_object (bound.next_passed (bound.by_reference
            (bound.typed types.long (bound.element (bound.typed (types.array types.long 1) (bound.field (bound.typed (types.user 0)
            (bound.with_object (root.Variable (record { 0 = 5 })))) 1)) (bound.next_expr (bound.typed types.long (bound.convert types.long
            (bound.typed types.integer (bound.constant (value.Int (pos 1)) origin.Literal)))) bound.no_exprs)))) bound.no_passed)))
            ∷ []);
        rules = (record { bits = 0 });
        mentions = ((mention.Proc (record { 0 = 0 })) ∷ (mention.Var (record { 0 = 1 }))
            ∷ []);
      });
    }) ∷
    (record {
      source = (record {
        place = (record { file = 1; line = 21 });
        text = (codes "For i = 1 To 2");
        form = (vb.for_head
            (vb.word (codes "i") suffix.Absent) (vb.lit (literal.Int (pos 1) false)) (vb.lit (literal.Int (pos 2) false)) None);
      });
      bindings = (record {
        exprs = ((bound.typed types.long (bound.variable (record { 0 = 7 }) false)) ∷ (bound.typed types.long
            (bound.convert types.long (bound.typed types.integer (bound.constant (value.Int (pos 1)) origin.Literal)))) ∷ (bound.typed
            types.long (bound.convert types.long (bound.typed types.integer (bound.constant (value.Int (pos 2)) origin.Literal))))
            ∷ []);
        rules = (record { bits = 0 });
        mentions = ((mention.Var (record { 0 = 7 })) ∷ []);
      });
    }) ∷
    (record {
      source = (record {
        place = (record { file = 1; line = 22 });
        text = (codes ".T(i) = .T(i) + i");
        form = (vb.assign
            (vb.index (vb.with_member (codes "T")) (vb.next_arg None false (vb.given (vb.word (codes "i") suffix.Absent)) vb.no_args))
            (vb.binary bin.Add (vb.index (vb.with_member (codes "T")) (vb.next_arg None false (vb.given (vb.word (codes "i") suffix.Absent))
            vb.no_args)) (vb.word (codes "i") suffix.Absent)));
      });
      bindings = (record {
        exprs = ((bound.typed types.long (bound.element
            (bound.typed (types.array types.long 1) (bound.field (bound.typed (types.user 0) (bound.with_object (root.Variable (record
            { 0 = 5 })))) 1)) (bound.next_expr (bound.typed types.long (bound.variable (record { 0 = 7 }) false)) bound.no_exprs)))
            ∷ (bound.typed types.long (bound.binary bin.Add (bound.typed types.long (bound.element (bound.typed (types.array types.long
            1) (bound.field (bound.typed (types.user 0) (bound.with_object (root.Variable (record { 0 = 5 })))) 1)) (bound.next_expr
            (bound.typed types.long (bound.variable (record { 0 = 7 }) false)) bound.no_exprs))) (bound.typed types.long (bound.variable
            (record { 0 = 7 }) false)))) ∷ []);
        rules = (record { bits = 0 });
        mentions = ((mention.Var (record { 0 = 1 })) ∷ (mention.Var
            (record { 0 = 7 })) ∷ (mention.Var (record { 0 = 1 })) ∷ (mention.Var (record { 0 = 7 })) ∷ (mention.Var (record {
              0 =
                  7;
            })) ∷ []);
      });
    }) ∷
    (record {
      source = (record {
        place = (record { file = 1; line = 23 });
        text = (codes "Next i");
        form = (vb.next (Some
            ((codes "i"), suffix.Absent)));
      });
      bindings = (record { exprs = ([]); rules = (record { bits = 0 }); mentions = ([]) });
    }) ∷
    (record {
      source = (record {
        place = (record { file = 1; line = 24 });
        text = (codes "Debug.Print .N; .T(1); .T(2); Peek(.N)");
        form = (vb.debug_print ((vb.with_member (codes "N")) ∷ (vb.index (vb.with_member (codes "T")) (vb.next_arg None false
            (vb.given (vb.lit (literal.Int (pos 1) false))) vb.no_args)) ∷ (vb.index (vb.with_member (codes "T")) (vb.next_arg None
            false (vb.given (vb.lit (literal.Int (pos 2) false))) vb.no_args)) ∷ (vb.index (vb.word (codes "Peek") suffix.Absent)
            (vb.next_arg None false (vb.given (vb.with_member (codes "N"))) vb.no_args)) ∷ []) false);
      });
      bindings = (record {
        exprs
            = ((bound.typed types.long (bound.field (bound.typed (types.user 0) (bound.with_object (root.Variable (record {
              0 = 5;
            })))) 0)) ∷ (bound.typed types.long (bound.element (bound.typed (types.array types.long 1) (bound.field (bound.typed (types.user
            0) (bound.with_object (root.Variable (record { 0 = 5 })))) 1)) (bound.next_expr (bound.typed types.long (bound.convert
            types.long (bound.typed types.integer (bound.constant (value.Int (pos 1)) origin.Literal)))) bound.no_exprs))) ∷ (bound.typed
            types.long (bound.element (bound.typed (types.array types.long 1) (bound.field (bound.typed (types.user 0) (bound.with_object
            (root.Variable (record { 0 = 5 })))) 1)) (bound.next_expr (bound.typed types.long (bound.convert types.long (bound.typed
            types.integer (bound.constant (value.Int (pos 2)) origin.Literal)))) bound.no_exprs))) ∷ (bound.typed types.long (bound.call
            (record { 0 = 1 }) false bound.no_object (bound.next_passed (bound.by_reference (bound.typed types.long (bound.field (bound.typed
            (types.user 0) (bound.with_object (root.Variable (record { 0 = 5 })))) 0))) bound.no_passed))) ∷ []);
        rules = (record
            { bits = 0 });
        mentions = ((mention.Var (record { 0 = 0 })) ∷ (mention.Var (record { 0 = 1 })) ∷ (mention.Var (record
            { 0 = 1 })) ∷ (mention.Proc (record { 0 = 1 })) ∷ (mention.Var (record { 0 = 0 })) ∷ []);
      });
    }) ∷
    (record {
      source = (record { place = (record { file = 1; line = 25 }); text = (codes "End With"); form = vb.end_with });
      bindings = (record { exprs = ([]); rules = (record { bits = 0 }); mentions = ([]) });
    }) ∷
    (record {
      source = (record {
        place = (record { file = 1; line = 26 });
        text = (codes "Set o = New Node");
        form = (vb.set
            (vb.word (codes "o") suffix.Absent) (vb.new_object (codes "Node")));
      });
      bindings = (record {
        exprs = ((bound.typed (types.class
            0) (bound.variable (record { 0 = 6 }) false)) ∷ (bound.typed (types.class 0) (bound.new_object (record { 0 = 0 }))) ∷
            []);
        rules = (record { bits = 0 });
        mentions = ((mention.Var (record { 0 = 6 })) ∷ (mention.Class (record { 0 = 0 }))
            ∷ []);
      });
    }) ∷
    (record {
      source = (record {
        place = (record { file = 1; line = 27 });
        text = (codes "With o");
        form = (vb.with_head (vb.word
            (codes "o") suffix.Absent));
      });
      bindings = (record {
        exprs = ((bound.typed (types.class 0) (bound.variable (record {
          0
              = 6;
        }) false)) ∷ []);
        rules = (record { bits = 0 });
        mentions = ((mention.Var (record { 0 = 6 })) ∷ []);
      });
    }) ∷
    (record {
      source = (record {
        place = (record { file = 1; line = 28 });
        text = (codes ".T(1) = 5");
        form = (vb.assign (vb.index
            (vb.with_member (codes "T")) (vb.next_arg None false (vb.given (vb.lit (literal.Int (pos 1) false))) vb.no_args)) (vb.lit
            (literal.Int (pos 5) false)));
      });
      bindings = (record {
        exprs = ((bound.typed types.long (bound.element (bound.typed (types.array
            types.long 1) (bound.field (bound.typed (types.class 0) (bound.with_object (root.Variable (record { 0 = 6 })))) 0)) (bound.next_expr
            (bound.typed types.long (bound.convert types.long (bound.typed types.integer (bound.constant (value.Int (pos 1)) origin.Literal))))
            bound.no_exprs))) ∷ (bound.typed types.long (bound.convert types.long (bound.typed types.integer (bound.constant (value.Int
            (pos 5)) origin.Literal)))) ∷ []);
        rules = (record { bits = 0 });
        mentions = ((mention.Var (record { 0 = 8 })) ∷ []);
      });
    }) ∷
    (record {
      source = (record {
        place = (record { file = 1; line = 29 });
        text = (codes "Call Inc(.T(1))");
        form = (vb.call
            (vb.index (vb.word (codes "Inc") suffix.Absent) (vb.next_arg None false (vb.given (vb.index (vb.with_member (codes "T"))
            (vb.next_arg None false (vb.given (vb.lit (literal.Int (pos 1) false))) vb.no_args))) vb.no_args)));
      });
      bindings = (record {
        exprs = ((bound.typed types.nothing (bound.call (record { 0 = 0 }) false bound.no_object (bound.next_passed (bound.by_reference
            (bound.typed types.long (bound.element (bound.typed (types.array types.long 1) (bound.field (bound.typed (types.class
            0) (bound.with_object (root.Variable (record { 0 = 6 })))) 0)) (bound.next_expr (bound.typed types.long (bound.convert
            types.long (bound.typed types.integer (bound.constant (value.Int (pos 1)) origin.Literal)))) bound.no_exprs)))) bound.no_passed)))
            ∷ []);
        rules = (record { bits = 0 });
        mentions = ((mention.Proc (record { 0 = 0 })) ∷ (mention.Var (record { 0 = 8 }))
            ∷ []);
      });
    }) ∷
    (record {
      source = (record {
        place = (record { file = 1; line = 30 });
        text = (codes ".Item(2) = 6");
        form = (vb.assign
            (vb.index (vb.with_member (codes "Item")) (vb.next_arg None false (vb.given (vb.lit (literal.Int (pos 2) false))) vb.no_args))
            (vb.lit (literal.Int (pos 6) false)));
      });
      bindings = (record {
        exprs = ((bound.typed types.long (bound.call (record {
          0 = 5;
        }) false (bound.of_object (bound.typed (types.class 0) (bound.with_object (root.Variable (record { 0 = 6 })))))
            (bound.next_passed (bound.by_value (bound.typed types.long (bound.convert types.long (bound.typed types.integer (bound.constant
            (value.Int (pos 2)) origin.Literal))))) bound.no_passed))) ∷ (bound.typed types.long (bound.convert types.long (bound.typed
            types.integer (bound.constant (value.Int (pos 6)) origin.Literal)))) ∷ []);
        rules = (record { bits = 0 });
        mentions =
            ((mention.Proc (record { 0 = 5 })) ∷ []);
      });
    }) ∷
    (record {
      source = (record {
        place = (record { file = 1; line = 31 });
        text = (codes ".Add 3");
        form = (vb.invoke (vb.with_member
            (codes "Add")) (vb.next_arg None false (vb.given (vb.lit (literal.Int (pos 3) false))) vb.no_args));
      });
      bindings = (record {
        exprs = ((bound.typed types.nothing (bound.call (record { 0 = 6 }) false (bound.of_object (bound.typed (types.class
            0) (bound.with_object (root.Variable (record { 0 = 6 }))))) (bound.next_passed (bound.by_value (bound.typed types.long
            (bound.convert types.long (bound.typed types.integer (bound.constant (value.Int (pos 3)) origin.Literal))))) bound.no_passed)))
            ∷ []);
        rules = (record { bits = 0 });
        mentions = ((mention.Proc (record { 0 = 6 })) ∷ []);
      });
    }) ∷
    (record {
      source = (record {
        place = (record { file = 1; line = 32 });
        text = (codes ".Child.k = 7");
        form = (vb.assign
            (vb.member (vb.with_member (codes "Child")) (codes "k")) (vb.lit (literal.Int (pos 7) false)));
      });
      bindings = (record {
        exprs = ((bound.typed types.long (bound.field (bound.typed (types.class 1) (bound.field (bound.typed (types.class 0)
            (bound.with_object (root.Variable (record { 0 = 6 })))) 3)) 0)) ∷ (bound.typed types.long (bound.convert types.long (bound.typed
            types.integer (bound.constant (value.Int (pos 7)) origin.Literal)))) ∷ []);
        rules = (record { bits = 0 });
        mentions =
            ((mention.Var (record { 0 = 20 })) ∷ (mention.Var (record { 0 = 11 })) ∷ []);
      });
    }) ∷
    (record {
      source = (record {
        place = (record { file = 1; line = 33 });
        text = (codes "Debug.Print .T(1); .Item(2); .Sum(1, 2); Peek(.k); .Child.k; .Child.T(1); Peek((.k))");
        form = (vb.debug_print ((vb.index (vb.with_member (codes "T")) (vb.next_arg None false (vb.given (vb.lit (literal.Int
            (pos 1) false))) vb.no_args)) ∷ (vb.index (vb.with_member (codes "Item")) (vb.next_arg None false (vb.given (vb.lit (literal.Int
            (pos 2) false))) vb.no_args)) ∷ (vb.index (vb.with_member (codes "Sum")) (vb.next_arg None false (vb.given (vb.lit (literal.Int
            (pos 1) false))) (vb.next_arg None false (vb.given (vb.lit (literal.Int (pos 2) false))) vb.no_args))) ∷ (vb.index (vb.word
            (codes "Peek") suffix.Absent) (vb.next_arg None false (vb.given (vb.with_member (codes "k"))) vb.no_args)) ∷ (vb.member
            (vb.with_member (codes "Child")) (codes "k")) ∷ (vb.index (vb.member (vb.with_member (codes "Child")) (codes "T")) (vb.next_arg
            None false (vb.given (vb.lit (literal.Int (pos 1) false))) vb.no_args)) ∷ (vb.index (vb.word (codes "Peek") suffix.Absent)
            (vb.next_arg None false (vb.given (vb.paren (vb.with_member (codes "k")))) vb.no_args)) ∷ []) false);
      });
      bindings = (record {
        exprs = ((bound.typed types.long (bound.element (bound.typed (types.array types.long 1) (bound.field (bound.typed (types.class
            0) (bound.with_object (root.Variable (record { 0 = 6 })))) 0)) (bound.next_expr (bound.typed types.long (bound.convert
            types.long (bound.typed types.integer (bound.constant (value.Int (pos 1)) origin.Literal)))) bound.no_exprs))) ∷ (bound.typed
            types.long (bound.call (record { 0 = 4 }) false (bound.of_object (bound.typed (types.class 0) (bound.with_object (root.Variable
            (record { 0 = 6 }))))) (bound.next_passed (bound.by_value (bound.typed types.long (bound.convert types.long (bound.typed
            types.integer (bound.constant (value.Int (pos 2)) origin.Literal))))) bound.no_passed))) ∷ (bound.typed types.long (bound.call
            (record { 0 = 7 }) false (bound.of_object (bound.typed (types.class 0) (bound.with_object (root.Variable (record {
              0 =
                  6;
            }))))) (bound.next_passed (bound.by_value (bound.typed types.long (bound.convert types.long (bound.typed types.integer
            (bound.constant (value.Int (pos 1)) origin.Literal))))) (bound.next_passed (bound.by_value (bound.typed types.long (bound.convert
            types.long (bound.typed types.integer (bound.constant (value.Int (pos 2)) origin.Literal))))) bound.no_passed)))) ∷ (bound.typed
            types.long (bound.call (record { 0 = 1 }) false bound.no_object (bound.next_passed (bound.by_reference (bound.typed types.long
            (bound.field (bound.typed (types.class 0) (bound.with_object (root.Variable (record { 0 = 6 })))) 1))) bound.no_passed)))
            ∷ (bound.typed types.long (bound.field (bound.typed (types.class 1) (bound.field (bound.typed (types.class 0) (bound.with_object
            (root.Variable (record { 0 = 6 })))) 3)) 0)) ∷ (bound.typed types.long (bound.element (bound.typed (types.array types.long
            1) (bound.field (bound.typed (types.class 1) (bound.field (bound.typed (types.class 0) (bound.with_object (root.Variable
            (record { 0 = 6 })))) 3)) 1)) (bound.next_expr (bound.typed types.long (bound.convert types.long (bound.typed types.integer
            (bound.constant (value.Int (pos 1)) origin.Literal)))) bound.no_exprs))) ∷ (bound.typed types.long (bound.call (record
            { 0 = 1 }) false bound.no_object (bound.next_passed (bound.by_value (bound.typed types.long (bound.field (bound.typed
            (types.class 0) (bound.with_object (root.Variable (record { 0 = 6 })))) 1))) bound.no_passed))) ∷ []);
        rules = (record
            { bits = 0 });
        mentions = ((mention.Var (record { 0 = 8 })) ∷ (mention.Proc (record { 0 = 4 })) ∷ (mention.Proc (record
            { 0 = 7 })) ∷ (mention.Proc (record { 0 = 1 })) ∷ (mention.Var (record { 0 = 9 })) ∷ (mention.Var (record { 0 = 20 }))
            ∷ (mention.Var (record { 0 = 11 })) ∷ (mention.Var (record { 0 = 21 })) ∷ (mention.Var (record { 0 = 11 })) ∷ (mention.Proc
            (record { 0 = 1 })) ∷ (mention.Var (record { 0 = 9 })) ∷ []);
      });
    }) ∷
    (record {
      source = (record {
        place = (record { file = 1; line = 34 });
        text = (codes "Set .Other = o");
        form = (vb.set
            (vb.with_member (codes "Other")) (vb.word (codes "o") suffix.Absent));
      });
      bindings = (record {
        exprs = ((bound.typed (types.class
            0) (bound.field (bound.typed (types.class 0) (bound.with_object (root.Variable (record { 0 = 6 })))) 2)) ∷ (bound.typed
            (types.class 0) (bound.variable (record { 0 = 6 }) false)) ∷ []);
        rules = (record { bits = 0 });
        mentions = ((mention.Var
            (record { 0 = 10 })) ∷ (mention.Var (record { 0 = 6 })) ∷ []);
      });
    }) ∷
    (record {
      source = (record {
        place = (record { file = 1; line = 35 });
        text = (codes "Debug.Print .Other Is o");
        form
            = (vb.debug_print ((vb.binary bin.Is (vb.with_member (codes "Other")) (vb.word (codes "o") suffix.Absent)) ∷ []) false);
      });
      bindings = (record {
        exprs = ((bound.typed types.boolean (bound.is_same (bound.typed (types.class 0) (bound.field
            (bound.typed (types.class 0) (bound.with_object (root.Variable (record { 0 = 6 })))) 2)) (bound.typed (types.class 0)
            (bound.variable (record { 0 = 6 }) false)))) ∷ []);
        rules = (record { bits = 0 });
        mentions = ((mention.Var (record {
          0 = 10;
        })) ∷ (mention.Var (record { 0 = 6 })) ∷ []);
      });
    }) ∷
    (record {
      source = (record {
        place = (record { file = 1; line = 36 });
        text = (codes "With o.Child");
        form = (vb.with_head
            (vb.member (vb.word (codes "o") suffix.Absent) (codes "Child")));
      });
      bindings = (record {
        exprs = ((bound.typed (types.class
            1) (bound.field (bound.typed (types.class 0) (bound.variable (record { 0 = 6 }) false)) 3)) ∷ []);
        rules = (record {
          bits
              = 0;
        });
        mentions = ((mention.Var (record { 0 = 11 })) ∷ (mention.Var (record { 0 = 6 })) ∷ []);
      });
    }) ∷
    (record {
      source = (record {
        place = (record { file = 1; line = 37 });
        text = (codes ".k = .k + 1");
        form = (vb.assign
            (vb.with_member (codes "k")) (vb.binary bin.Add (vb.with_member (codes "k")) (vb.lit (literal.Int (pos 1) false))));
      });
      bindings = (record {
        exprs = ((bound.typed types.long (bound.field (bound.typed (types.class 1) (bound.with_object root.Object))
            0)) ∷ (bound.typed types.long (bound.binary bin.Add (bound.typed types.long (bound.field (bound.typed (types.class 1)
            (bound.with_object root.Object)) 0)) (bound.typed types.long (bound.convert types.long (bound.typed types.integer (bound.constant
            (value.Int (pos 1)) origin.Literal)))))) ∷ []);
        rules = (record { bits = 0 });
        mentions = ((mention.Var (record {
          0 =
              20;
        })) ∷ (mention.Var (record { 0 = 20 })) ∷ []);
      });
    }) ∷
    (record {
      source = (record {
        place = (record { file = 1; line = 38 });
        text = (codes "Debug.Print .k; o.Child.k");
        form
            = (vb.debug_print ((vb.with_member (codes "k")) ∷ (vb.member (vb.member (vb.word (codes "o") suffix.Absent) (codes "Child"))
            (codes "k")) ∷ []) false);
      });
      bindings = (record {
        exprs = ((bound.typed types.long (bound.field (bound.typed (types.class
            1) (bound.with_object root.Object)) 0)) ∷ (bound.typed types.long (bound.field (bound.typed (types.class 1) (bound.field
            (bound.typed (types.class 0) (bound.variable (record { 0 = 6 }) false)) 3)) 0)) ∷ []);
        rules = (record { bits = 0 });
        mentions = ((mention.Var (record { 0 = 20 })) ∷ (mention.Var (record { 0 = 20 })) ∷ (mention.Var (record { 0 = 11 }))
            ∷ (mention.Var (record { 0 = 6 })) ∷ []);
      });
    }) ∷
    (record {
      source = (record { place = (record { file = 1; line = 39 }); text = (codes "End With"); form = vb.end_with });
      bindings = (record { exprs = ([]); rules = (record { bits = 0 }); mentions = ([]) });
    }) ∷
    (record {
      source = (record { place = (record { file = 1; line = 40 }); text = (codes "End With"); form = vb.end_with });
      bindings = (record { exprs = ([]); rules = (record { bits = 0 }); mentions = ([]) });
    }) ∷ [])

abbrev pub body_3 : List bound.Line
body_3 = (
    (record {
      source = (record {
        place = (record { file = 2; line = 10 });
        text = (codes "Set Child = New Node2");
        form =
            (vb.set (vb.word (codes "Child") suffix.Absent) (vb.new_object (codes "Node2")));
      });
      bindings = (record {
        exprs = ((bound.typed
            (types.class 1) (bound.variable (record { 0 = 11 }) false)) ∷ (bound.typed (types.class 1) (bound.new_object (record {
              0 = 1;
            }))) ∷ []);
        rules = (record { bits = 0 });
        mentions = ((mention.Var (record { 0 = 11 })) ∷ (mention.Class (record
            { 0 = 1 })) ∷ []);
      });
    }) ∷ [])

abbrev pub body_4 : List bound.Line
body_4 = (
    (record {
      source = (record {
        place = (record { file = 2; line = 14 });
        text = (codes "Item = T(i)");
        form = (vb.assign
            (vb.word (codes "Item") suffix.Absent) (vb.index (vb.word (codes "T") suffix.Absent) (vb.next_arg None false (vb.given
            (vb.word (codes "i") suffix.Absent)) vb.no_args)));
      });
      bindings = (record {
        exprs = ((bound.typed types.long (bound.variable
            (record { 0 = 13 }) false)) ∷ (bound.typed types.long (bound.element (bound.typed (types.array types.long 1) (bound.variable
            (record { 0 = 8 }) false)) (bound.next_expr (bound.typed types.long (bound.variable (record { 0 = 12 }) false)) bound.no_exprs)))
            ∷ []);
        rules = (record { bits = 0 });
        mentions = ((mention.Var (record { 0 = 13 })) ∷ (mention.Var (record { 0 = 8 }))
            ∷ (mention.Var (record { 0 = 12 })) ∷ []);
      });
    }) ∷ [])

abbrev pub body_5 : List bound.Line
body_5 = (
    (record {
      source = (record {
        place = (record { file = 2; line = 18 });
        text = (codes "T(i) = v");
        form = (vb.assign (vb.index
            (vb.word (codes "T") suffix.Absent) (vb.next_arg None false (vb.given (vb.word (codes "i") suffix.Absent)) vb.no_args))
            (vb.word (codes "v") suffix.Absent));
      });
      bindings = (record {
        exprs = ((bound.typed types.long (bound.element (bound.typed
            (types.array types.long 1) (bound.variable (record { 0 = 8 }) false)) (bound.next_expr (bound.typed types.long (bound.variable
            (record { 0 = 14 }) false)) bound.no_exprs))) ∷ (bound.typed types.long (bound.variable (record { 0 = 15 }) false)) ∷
            []);
        rules = (record { bits = 0 });
        mentions = ((mention.Var (record { 0 = 8 })) ∷ (mention.Var (record { 0 = 14 })) ∷
            (mention.Var (record { 0 = 15 })) ∷ []);
      });
    }) ∷ [])

abbrev pub body_6 : List bound.Line
body_6 = (
    (record {
      source = (record {
        place = (record { file = 2; line = 22 });
        text = (codes "k = k + n");
        form = (vb.assign (vb.word
            (codes "k") suffix.Absent) (vb.binary bin.Add (vb.word (codes "k") suffix.Absent) (vb.word (codes "n") suffix.Absent)));
      });
      bindings = (record {
        exprs = ((bound.typed types.long (bound.variable (record { 0 = 9 }) false)) ∷ (bound.typed types.long
            (bound.binary bin.Add (bound.typed types.long (bound.variable (record { 0 = 9 }) false)) (bound.typed types.long (bound.variable
            (record { 0 = 16 }) false)))) ∷ []);
        rules = (record { bits = 0 });
        mentions = ((mention.Var (record { 0 = 9 })) ∷ (mention.Var
            (record { 0 = 9 })) ∷ (mention.Var (record { 0 = 16 })) ∷ []);
      });
    }) ∷ [])

abbrev pub body_7 : List bound.Line
body_7 = (
    (record {
      source = (record {
        place = (record { file = 2; line = 26 });
        text = (codes "Sum = T(i) + T(j)");
        form = (vb.assign
            (vb.word (codes "Sum") suffix.Absent) (vb.binary bin.Add (vb.index (vb.word (codes "T") suffix.Absent) (vb.next_arg None
            false (vb.given (vb.word (codes "i") suffix.Absent)) vb.no_args)) (vb.index (vb.word (codes "T") suffix.Absent) (vb.next_arg
            None false (vb.given (vb.word (codes "j") suffix.Absent)) vb.no_args))));
      });
      bindings = (record {
        exprs = ((bound.typed
            types.long (bound.variable (record { 0 = 19 }) false)) ∷ (bound.typed types.long (bound.binary bin.Add (bound.typed types.long
            (bound.element (bound.typed (types.array types.long 1) (bound.variable (record { 0 = 8 }) false)) (bound.next_expr (bound.typed
            types.long (bound.variable (record { 0 = 17 }) false)) bound.no_exprs))) (bound.typed types.long (bound.element (bound.typed
            (types.array types.long 1) (bound.variable (record { 0 = 8 }) false)) (bound.next_expr (bound.typed types.long (bound.variable
            (record { 0 = 18 }) false)) bound.no_exprs))))) ∷ []);
        rules = (record { bits = 0 });
        mentions = ((mention.Var (record
            { 0 = 19 })) ∷ (mention.Var (record { 0 = 8 })) ∷ (mention.Var (record { 0 = 17 })) ∷ (mention.Var (record { 0 = 8 }))
            ∷ (mention.Var (record { 0 = 18 })) ∷ []);
      });
    }) ∷ [])

abbrev pub bodies : List (List bound.Line)
bodies = body_0 ∷ body_1 ∷ body_2 ∷ body_3 ∷ body_4 ∷ body_5 ∷ body_6 ∷ body_7 ∷ []

abbrev pub program : bound.Program
program = record { declarations = declarations; bodies = bodies }

abbrev pub quiet : List (List Bool)
quiet = ((false ∷ []) ∷ (true ∷ []) ∷ ([]) ∷ ([]) ∷ (false ∷ []) ∷ (false ∷ false ∷ []) ∷ (false ∷ []) ∷ (false ∷ false ∷
    []) ∷ [])

abbrev pub lows : List (VarId × ℤ × ℤ)
lows = (((record { 0 = 1 }), (pos 1), (pos 0)) ∷ ((record { 0 = 8 }), (pos 0), (pos 0)) ∷ (
  (record { 0 = 21 }),
  (pos 0),
  (pos
      0),
) ∷ [])

abbrev pub clean : List Bool
clean = (true ∷ true ∷ true ∷ true ∷ true ∷ true ∷ true ∷ true ∷ [])

abbrev pub written : net.Project
written = (record {
  library = false;
  main = (Some (codes "Main1"));
  note = None;
  modules = ((record {
    name = (codes "Main1");
    class = false;
    members = (
        (net.structure (record {
          name = (codes "Box");
          fields = ((net.field (codes "N") net_types.integer) ∷ (net.field (codes
              "T") (net_types.array_of net_types.integer 1)) ∷ []);
        })) ∷
        (net.proc (record {
          head = (net.sub net_visible.Public (codes "Inc") ((record {
            passing = net_passing.Reference;
            name
                = (codes "n");
            ty = net_types.integer;
          }) ∷ []));
          prologue = ([]);
          lines = (
              (net.assign (net.path ((codes "n") ∷ [])) (net.binary net_bin.Add (net.path ((codes "n") ∷ [])) (net.lit (net.integer
              (pos 1) false)))) ∷ []);
          close = close.EndSub;
        })) ∷
        (net.proc (record {
          head = (net.function net_visible.Public (codes "Peek") ((record {
            passing = net_passing.Reference;
            name = (codes "n");
            ty = net_types.integer;
          }) ∷ []) net_types.integer);
          prologue = ([]);
          lines = (
              (net.assign (net.path ((codes "Peek") ∷ [])) (net.path ((codes "n") ∷ []))) ∷ []);
          close = close.EndFunction;
        })) ∷
        (net.proc (record {
          head = (net.sub net_visible.Public (codes "Main") ([]));
          prologue = (
              (net.local (record {
                name = (codes "b");
                ty = (net_types.named ((codes "Box") ∷ []));
                value = (Some (net.call_of (net.path
                    ((codes "UpgradeSupport") ∷ (codes "New1") ∷ [])) net.no_exps));
              })) ∷
              (net.local (record { name = (codes "o"); ty = (net_types.named ((codes "Node") ∷ [])); value = None })) ∷
              (net.local (record { name = (codes "i"); ty = net_types.integer; value = None })) ∷ []);
          lines = (
              (net.with_head (net.path ((codes "b") ∷ []))) ∷
              (net.assign (net.with_dot (codes "N")) (net.lit (net.integer (pos 4) false))) ∷
              (net.assign (net.call_of (net.with_dot (codes "T")) (net.next_exp (net.call_of (net.path ((codes "UpgradeSupport") ∷ (codes
              "At") ∷ [])) (net.next_exp (net.lit (net.integer (pos 1) false)) (net.next_exp (net.lit (net.integer (pos 1) false)) net.no_exps)))
              net.no_exps)) (net.with_dot (codes "N"))) ∷
              (net.call (net.path ((codes "Inc") ∷ [])) (net.next_exp (net.with_dot (codes "N")) net.no_exps)) ∷
              (net.call (net.path ((codes "Inc") ∷ [])) (net.next_exp (net.call_of (net.with_dot (codes "T")) (net.next_exp (net.call_of
              (net.path ((codes "UpgradeSupport") ∷ (codes "At") ∷ [])) (net.next_exp (net.lit (net.integer (pos 1) false)) (net.next_exp
              (net.lit (net.integer (pos 1) false)) net.no_exps))) net.no_exps)) net.no_exps)) ∷
              (net.for_head (net.path ((codes "i") ∷ [])) (net.lit (net.integer (pos 1) false)) (net.lit (net.integer (pos 2) false))
              None) ∷
              (net.assign (net.call_of (net.with_dot (codes "T")) (net.next_exp (net.call_of (net.path ((codes "UpgradeSupport") ∷ (codes
              "At") ∷ [])) (net.next_exp (net.path ((codes "i") ∷ [])) (net.next_exp (net.lit (net.integer (pos 1) false)) net.no_exps)))
              net.no_exps)) (net.binary net_bin.Add (net.call_of (net.with_dot (codes "T")) (net.next_exp (net.call_of (net.path ((codes
              "UpgradeSupport") ∷ (codes "At") ∷ [])) (net.next_exp (net.path ((codes "i") ∷ [])) (net.next_exp (net.lit (net.integer
              (pos 1) false)) net.no_exps))) net.no_exps)) (net.path ((codes "i") ∷ [])))) ∷
              net.next ∷
              (net.call (net.path ((codes "UpgradeSupport") ∷ (codes "PrintLine") ∷ [])) (net.next_exp (net.binary net_bin.Concat (net.binary
              net_bin.Concat (net.binary net_bin.Concat (net.call_of (net.path ((codes "UpgradeSupport") ∷ (codes "PrintNum") ∷ []))
              (net.next_exp (net.cast cast.CDec (net.with_dot (codes "N"))) net.no_exps)) (net.call_of (net.path ((codes "UpgradeSupport")
              ∷ (codes "PrintNum") ∷ [])) (net.next_exp (net.cast cast.CDec (net.call_of (net.with_dot (codes "T")) (net.next_exp (net.call_of
              (net.path ((codes "UpgradeSupport") ∷ (codes "At") ∷ [])) (net.next_exp (net.lit (net.integer (pos 1) false)) (net.next_exp
              (net.lit (net.integer (pos 1) false)) net.no_exps))) net.no_exps))) net.no_exps))) (net.call_of (net.path ((codes "UpgradeSupport")
              ∷ (codes "PrintNum") ∷ [])) (net.next_exp (net.cast cast.CDec (net.call_of (net.with_dot (codes "T")) (net.next_exp (net.call_of
              (net.path ((codes "UpgradeSupport") ∷ (codes "At") ∷ [])) (net.next_exp (net.lit (net.integer (pos 2) false)) (net.next_exp
              (net.lit (net.integer (pos 1) false)) net.no_exps))) net.no_exps))) net.no_exps))) (net.call_of (net.path ((codes "UpgradeSupport")
              ∷ (codes "PrintNum") ∷ [])) (net.next_exp (net.cast cast.CDec (net.call_of (net.path ((codes "Peek") ∷ [])) (net.next_exp
              (net.with_dot (codes "N")) net.no_exps))) net.no_exps))) net.no_exps)) ∷
              net.end_with ∷
              (net.assign (net.path ((codes "o") ∷ [])) (net.new_object (net_types.named ((codes "Node") ∷ [])) net.no_exps)) ∷
              (net.with_head (net.path ((codes "o") ∷ []))) ∷
              (net.assign (net.call_of (net.with_dot (codes "T")) (net.next_exp (net.lit (net.integer (pos 1) false)) net.no_exps))
              (net.lit (net.integer (pos 5) false))) ∷
              (net.call (net.path ((codes "Inc") ∷ [])) (net.next_exp (net.call_of (net.with_dot (codes "T")) (net.next_exp (net.lit
              (net.integer (pos 1) false)) net.no_exps)) net.no_exps)) ∷
              (net.assign (net.call_of (net.with_dot (codes "Item")) (net.next_exp (net.lit (net.integer (pos 2) false)) net.no_exps))
              (net.lit (net.integer (pos 6) false))) ∷
              (net.call (net.with_dot (codes "Add")) (net.next_exp (net.lit (net.integer (pos 3) false)) net.no_exps)) ∷
              (net.assign (net.dot (net.with_dot (codes "Child")) (codes "k")) (net.lit (net.integer (pos 7) false))) ∷
              (net.call (net.path ((codes "UpgradeSupport") ∷ (codes "PrintLine") ∷ [])) (net.next_exp (net.binary net_bin.Concat (net.binary
              net_bin.Concat (net.binary net_bin.Concat (net.binary net_bin.Concat (net.binary net_bin.Concat (net.binary net_bin.Concat
              (net.call_of (net.path ((codes "UpgradeSupport") ∷ (codes "PrintNum") ∷ [])) (net.next_exp (net.cast cast.CDec (net.call_of
              (net.with_dot (codes "T")) (net.next_exp (net.lit (net.integer (pos 1) false)) net.no_exps))) net.no_exps)) (net.call_of
              (net.path ((codes "UpgradeSupport") ∷ (codes "PrintNum") ∷ [])) (net.next_exp (net.cast cast.CDec (net.call_of (net.with_dot
              (codes "Item")) (net.next_exp (net.lit (net.integer (pos 2) false)) net.no_exps))) net.no_exps))) (net.call_of (net.path
              ((codes "UpgradeSupport") ∷ (codes "PrintNum") ∷ [])) (net.next_exp (net.cast cast.CDec (net.call_of (net.with_dot (codes
              "Sum")) (net.next_exp (net.lit (net.integer (pos 1) false)) (net.next_exp (net.lit (net.integer (pos 2) false)) net.no_exps))))
              net.no_exps))) (net.call_of (net.path ((codes "UpgradeSupport") ∷ (codes "PrintNum") ∷ [])) (net.next_exp (net.cast cast.CDec
              (net.call_of (net.path ((codes "Peek") ∷ [])) (net.next_exp (net.paren (net.with_dot (codes "k"))) net.no_exps))) net.no_exps)))
              (net.call_of (net.path ((codes "UpgradeSupport") ∷ (codes "PrintNum") ∷ [])) (net.next_exp (net.cast cast.CDec (net.dot
              (net.with_dot (codes "Child")) (codes "k"))) net.no_exps))) (net.call_of (net.path ((codes "UpgradeSupport") ∷ (codes
              "PrintNum") ∷ [])) (net.next_exp (net.cast cast.CDec (net.call_of (net.dot (net.with_dot (codes "Child")) (codes "T"))
              (net.next_exp (net.lit (net.integer (pos 1) false)) net.no_exps))) net.no_exps))) (net.call_of (net.path ((codes "UpgradeSupport")
              ∷ (codes "PrintNum") ∷ [])) (net.next_exp (net.cast cast.CDec (net.call_of (net.path ((codes "Peek") ∷ [])) (net.next_exp
              (net.paren (net.with_dot (codes "k"))) net.no_exps))) net.no_exps))) net.no_exps)) ∷
              (net.assign (net.with_dot (codes "Other")) (net.path ((codes "o") ∷ []))) ∷
              (net.call (net.path ((codes "UpgradeSupport") ∷ (codes "PrintLine") ∷ [])) (net.next_exp (net.cast cast.CStr (net.binary
              net_bin.Is (net.with_dot (codes "Other")) (net.path ((codes "o") ∷ [])))) net.no_exps)) ∷
              (net.with_head (net.path ((codes "o") ∷ (codes "Child") ∷ []))) ∷
              (net.assign (net.with_dot (codes "k")) (net.binary net_bin.Add (net.with_dot (codes "k")) (net.lit (net.integer (pos 1)
              false)))) ∷
              (net.call (net.path ((codes "UpgradeSupport") ∷ (codes "PrintLine") ∷ [])) (net.next_exp (net.binary net_bin.Concat (net.call_of
              (net.path ((codes "UpgradeSupport") ∷ (codes "PrintNum") ∷ [])) (net.next_exp (net.cast cast.CDec (net.with_dot (codes
              "k"))) net.no_exps)) (net.call_of (net.path ((codes "UpgradeSupport") ∷ (codes "PrintNum") ∷ [])) (net.next_exp (net.cast
              cast.CDec (net.path ((codes "o") ∷ (codes "Child") ∷ (codes "k") ∷ []))) net.no_exps))) net.no_exps)) ∷
              net.end_with ∷
              net.end_with ∷ []);
          close = close.EndSub;
        })) ∷ []);
  }) ∷ (record {
    name = (codes "Node");
    class = true;
    members = (
        (net.proc (record {
          head = net.sub_new;
          prologue = ([]);
          lines = (
              (net.call (net.path ((codes "Class_Initialize") ∷ [])) net.no_exps) ∷ []);
          close = close.EndSub;
        })) ∷
        (net.variable net_visible.Public (record {
          name = (codes "T");
          ty = (net_types.array_of net_types.integer 1);
          value =
              (Some (net.new_array net_types.integer (net.next_exp (net.lit (net.integer (pos 3) false)) net.no_exps)));
        })) ∷
        (net.variable net_visible.Public (record { name = (codes "k"); ty = net_types.integer; value = None })) ∷
        (net.variable net_visible.Public (record {
          name = (codes "Other");
          ty = (net_types.named ((codes "Node") ∷ []));
          value
              = None;
        })) ∷
        (net.variable net_visible.Public (record {
          name = (codes "Child");
          ty = (net_types.named ((codes "Node2") ∷ []));
          value
              = None;
        })) ∷
        (net.proc (record {
          head = (net.sub net_visible.Private (codes "Class_Initialize") ([]));
          prologue = ([]);
          lines = (
              (net.assign (net.path ((codes "Child") ∷ [])) (net.new_object (net_types.named ((codes "Node2") ∷ [])) net.no_exps)) ∷
              []);
          close = close.EndSub;
        })) ∷
        (net.property (record {
          visibility = net_visible.Public;
          name = (codes "Item");
          params = ((record {
            passing = net_passing.Value;
            name = (codes "i");
            ty = net_types.integer;
          }) ∷ []);
          ty = net_types.integer;
          get_comments = ([]);
          get = (Some (record {
            head = net.get_part;
            prologue = ([]);
            lines = (
                (net.assign (net.path ((codes "Item") ∷ [])) (net.call_of (net.path ((codes "T") ∷ [])) (net.next_exp (net.path ((codes
                "i") ∷ [])) net.no_exps))) ∷ []);
            close = close.EndGet;
          }));
          set_comments = ([]);
          set = (Some (record {
            head = (net.set_part
                (codes "v") net_types.integer);
            prologue = ([]);
            lines = (
                (net.assign (net.call_of (net.path ((codes "T") ∷ [])) (net.next_exp (net.path ((codes "i") ∷ [])) net.no_exps)) (net.path
                ((codes "v") ∷ []))) ∷ []);
            close = close.EndSet;
          }));
        })) ∷
        (net.proc (record {
          head = (net.sub net_visible.Public (codes "Add") ((record {
            passing = net_passing.Value;
            name = (codes
                "n");
            ty = net_types.integer;
          }) ∷ []));
          prologue = ([]);
          lines = (
              (net.assign (net.path ((codes "k") ∷ [])) (net.binary net_bin.Add (net.path ((codes "k") ∷ [])) (net.path ((codes "n")
              ∷ [])))) ∷ []);
          close = close.EndSub;
        })) ∷
        (net.proc (record {
          head = (net.function net_visible.Public (codes "Sum") ((record {
            passing = net_passing.Value;
            name
                = (codes "i");
            ty = net_types.integer;
          }) ∷ (record {
            passing = net_passing.Value;
            name = (codes "j");
            ty = net_types.integer;
          }) ∷ []) net_types.integer);
          prologue = ([]);
          lines = (
              (net.assign (net.path ((codes "Sum") ∷ [])) (net.binary net_bin.Add (net.call_of (net.path ((codes "T") ∷ [])) (net.next_exp
              (net.path ((codes "i") ∷ [])) net.no_exps)) (net.call_of (net.path ((codes "T") ∷ [])) (net.next_exp (net.path ((codes
              "j") ∷ [])) net.no_exps)))) ∷ []);
          close = close.EndFunction;
        })) ∷ []);
  }) ∷ (record {
    name = (codes "Node2");
    class =
        true;
    members = (
        (net.variable net_visible.Public (record { name = (codes "k"); ty = net_types.integer; value = None })) ∷
        (net.variable net_visible.Public (record {
          name = (codes "T");
          ty = (net_types.array_of net_types.integer 1);
          value =
              (Some (net.new_array net_types.integer (net.next_exp (net.lit (net.integer (pos 2) false)) net.no_exps)));
        })) ∷ []);
  })
      ∷ []);
  support = (record {
    name = (codes "UpgradeSupport");
    class = false;
    members = (
        (net.proc (record {
          head = (net.sub net_visible.Public (codes "PrintLine") ((record {
            passing = net_passing.Value;
            name
                = (codes "s");
            ty = net_types.str;
          }) ∷ []));
          prologue = ([]);
          lines = (
              (net.call (net.path ((codes "System") ∷ (codes "Console") ∷ (codes "WriteLine") ∷ [])) (net.next_exp (net.path ((codes
              "s") ∷ [])) net.no_exps)) ∷ []);
          close = close.EndSub;
        })) ∷
        (net.proc (record {
          head = (net.function net_visible.Public (codes "CurText") ((record {
            passing = net_passing.Value;
            name = (codes "d");
            ty = net_types.decimal;
          }) ∷ []) net_types.str);
          prologue = ([]);
          lines = (
              (net.assign (net.path ((codes "CurText") ∷ [])) (net.call_of (net.path ((codes "d") ∷ (codes "ToString") ∷ [])) (net.next_exp
              (net.lit (net.str (codes "0.####"))) (net.next_exp (net.path ((codes "System") ∷ (codes "Globalization") ∷ (codes "CultureInfo")
              ∷ (codes "InvariantCulture") ∷ [])) net.no_exps)))) ∷ []);
          close = close.EndFunction;
        })) ∷
        (net.proc (record {
          head = (net.function net_visible.Public (codes "PrintNum") ((record {
            passing = net_passing.Value;
            name = (codes "d");
            ty = net_types.decimal;
          }) ∷ []) net_types.str);
          prologue = ([]);
          lines = (
              (net.if_head (net.binary net_bin.Less (net.path ((codes "d") ∷ [])) (net.lit (net.decimal (pos 0))))) ∷
              (net.assign (net.path ((codes "PrintNum") ∷ [])) (net.binary net_bin.Concat (net.call_of (net.path ((codes "CurText")
              ∷ [])) (net.next_exp (net.path ((codes "d") ∷ [])) net.no_exps)) (net.lit (net.str (codes " "))))) ∷
              net.else_line ∷
              (net.assign (net.path ((codes "PrintNum") ∷ [])) (net.binary net_bin.Concat (net.binary net_bin.Concat (net.lit (net.str
              (codes " "))) (net.call_of (net.path ((codes "CurText") ∷ [])) (net.next_exp (net.path ((codes "d") ∷ [])) net.no_exps)))
              (net.lit (net.str (codes " "))))) ∷
              net.end_if ∷ []);
          close = close.EndFunction;
        })) ∷
        (net.proc (record {
          head = (net.function net_visible.Public (codes "At") ((record {
            passing = net_passing.Value;
            name
                = (codes "i");
            ty = net_types.integer;
          }) ∷ (record {
            passing = net_passing.Value;
            name = (codes "b");
            ty = net_types.integer;
          }) ∷ []) net_types.integer);
          prologue = (
              (net.local (record {
                name = (codes "d");
                ty = net_types.long;
                value = (Some (net.binary net_bin.Sub (net.cast cast.CLng
                    (net.path ((codes "i") ∷ []))) (net.cast cast.CLng (net.path ((codes "b") ∷ [])))));
              })) ∷ []);
          lines = (
              (net.if_head (net.binary net_bin.Or (net.binary net_bin.Less (net.path ((codes "d") ∷ [])) (net.lit (net.long (pos 0))))
              (net.binary net_bin.Greater (net.path ((codes "d") ∷ [])) (net.lit (net.long (pos 2147483647)))))) ∷
              (net.assign (net.path ((codes "At") ∷ [])) (net.unary net_un.Neg (net.lit (net.integer (pos 1) false)))) ∷
              net.else_line ∷
              (net.assign (net.path ((codes "At") ∷ [])) (net.cast cast.CInt (net.path ((codes "d") ∷ [])))) ∷
              net.end_if ∷ []);
          close = close.EndFunction;
        })) ∷
        (net.proc (record {
          head = (net.function net_visible.Public (codes "New1") ([]) (net_types.named ((codes "Main1") ∷ (codes
              "Box") ∷ [])));
          prologue = (
              (net.local (record { name = (codes "r"); ty = (net_types.named ((codes "Main1") ∷ (codes "Box") ∷ [])); value = None }))
              ∷ []);
          lines = (
              (net.assign (net.path ((codes "r") ∷ (codes "T") ∷ [])) (net.new_array net_types.integer (net.next_exp (net.lit (net.integer
              (pos 2) false)) net.no_exps))) ∷
              (net.assign (net.path ((codes "New1") ∷ [])) (net.path ((codes "r") ∷ []))) ∷ []);
          close = close.EndFunction;
        })) ∷ []);
  });
})

abbrev pub runnable : Runnable
runnable = runnable_of program quiet lows

said : ran runnable 2 2000 ≡ (
  line (codes " 5  6  2  5 ")
      ++ line (codes " 6  6  12  3  7  0  3 ")
      ++ line (codes "True")
      ++ line (codes " 8  8 "),
  ended,
)
unfolding digits
said = refl

said_written : ran_written written 2 2000 ≡ (
  line (codes " 5  6  2  5 ")
      ++ line (codes " 6  6  12  3  7  0  3 ")
      ++ line (codes "True")
      ++ line (codes " 8  8 "),
  ended,
)
unfolding digits
said_written = refl
