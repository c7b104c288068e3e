-- The names that walks cite.
pub use Rattle.std.proofs.Common.{◌≡◌, ℕ, ◌+◌, ◌≤◌, List, [], ◌∷◌, ◌++◌, refl, sym, ap, ◌∙◌, subst, lit<, arith, Option, None, Some, T}
pub use Rattle.std.proofs.raw_atomic.Walks.{proved, proved_at, leaves}
pub use seplogic.Ra.Ura.{Ura}
pub use base.Fraction.{full_share}
pub use base.Share as Share'
pub use base.Logic.{SProp, ent, sep, emp, wand, id⊢, via, fst∗, snd∗, never, apply∗}
pub use base.Fml.{Lft, Share, Fml, Incl, Incl-trans, ftrue, feq, fsep, fex, fat, flft, fdead, flent, fbor, fres}
pub use mir.Syntax.{ty_int, named, a_type, dcons, dnil}
pub use mir.Val.{Val, vunit, vint, vptr, vstruct, vcons, vnil, of_list, has_ty, WT}
pub use mir.Raw.{raw as bare}
pub use mir.MapTy.{inst_fn}
pub use contract.Monad.{fact, fact_i}
pub use contract.BorrowLft.{◌⊑◌, ⊑_refl, ⊑_trans, meet_⊑_left, meet_⊑_right}
pub use contract.Running.{tables}
pub use types.Logic.{Logic, sem}
pub use types.Kit.{⋆, Item, Goal, Seq, Step, Soaks, step, ‵, raw, ◌⊛◌, some, given, later, prop, at_ret, Sq, ◌$◌, ◌∵◌, !, qed, by, done, move, keep, drop, use0, use1, use2, use3, split, split3, join, fsplit, fsplit3, fjoin, fjoin3, fpick, fpack, feq_i, feq_l, pick, learn, await, rewrite, regoal, suffices, frame, group, updating, now}
pub use types.Run.{enter, of_opd, lit, unit_lit, bin, addr, load, look, store, stop, fld, hop, no_more, and_then, assigns, assigns_last, first, blocks, branches, skips, exec, returns, returns_within, well_typed}
pub use types.Part.{whole, sub, agg, look_in}
pub use types.Tokens.{lft_new, lft_end, bor_new, lent_back}
pub use types.ByLocal.{alloc_all, pass_all, free_all, look_at, get, get_in, through, sets, sets_last, lands_as, lands_last, is, env}
pub use denote.Builtin.{u8, bool, unit}
pub use denote.Exit.{yes, no}
pub use denote.RattleType.{RattleType, Valss, owns}
pub use denote.Laws.{Is, shows}
pub use denote.Memory.{part_at, lone, shared_of, hidden_shr}
pub use denote.Param.{param, bounded, layout, layouts}
pub use denote.Param.Laws.{Laws, param_laws}
pub use denote.RawPtr.{Ptr, RawPtr, block_ptr, null_ptr, ptr_val, lies_at, in_a_block, block_of, count_of, rawptr_vals, rawptr_Tells, rawptr_Lawful, InBlock}
pub use denote.Shadow.{makes_shadow}
pub use denote.Signature.{plain, types_at}
pub use denote.Steps.{nothing, owned, opens, closes, tied, ties, heard, peeks, only}
pub use denote.Struct.Struct.{Shape, Struct, within, as_fields}
pub use denote.Struct.Tuple.{Tuple, tuple_type}
pub use denote.Triple.Call.{calls_at, calls_at_last}
pub use denote.Triple.Clauses.{Lasts, lasts}
pub use denote.Triple.Entry.{on_entry, alive}
pub use denote.Triple.Spec.{triple_of}
pub use denote.Triple.Walked.{Stays, walk_of, says, stay_dropped, Goes-dropped, stay_ref, Goes-ref, ends_at}
pub use denote.Triple.Table.{framed}
