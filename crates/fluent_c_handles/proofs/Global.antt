-- The allocator of a handle, the handle and what is left at last as rows.
use Rattle.std.proofs.alloc.Calls.{Al}
use Rattle.std.proofs.alloc.Global.TheLaws.{the_row_laws}
use Rattle.std.specs.contracts.alloc.Global as G
use Rattle.std.specs.contracts.impls.GlobalAllocator.TheImpl.{ghosts, dict}
use Rattle.std.specs.Global.{Global}
use mir.Syntax.{Ty}
use base.Fml.{Fml, ftrue}
use denote.RattleType.{RattleType}
use denote.RawPtr.{Ptr}
use Rattle.fluent_c_handles.specs.contracts.handle.Handle as H
use Rattle.fluent_c_handles.specs.contracts.closing.Last as L
use Rattle.fluent_c_handles.proofs.closing.Last.TheLaws.{the_row_laws as last_laws}

abbrev pub Y : Al
Y = record { row = G.the_row; laws = the_row_laws; g = ghosts; d = dict; drops = dict }

abbrev pub frees : Global → Ty → Ptr → Fml
frees = ghosts.dealloc_token

abbrev pub Hn : RattleType
Hn = H.the_row

abbrev pub Ls : Al
Ls = record { row = L.the_row; laws = last_laws; g = record { dealloc_token = λ a τ p. ftrue }; d = dict; drops = dict }
