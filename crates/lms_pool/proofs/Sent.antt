-- A pool may be shared by threads, and it and its seats may go to another thread.
use borrow.Author.Rules.{rules}
use denote.Param.Send.{IsSend, IsSync, sendable}
use denote.Memory.{part_of}
use types.Keyed.{entry}
use Rattle.std.proofs.Crossing.{crosses}
use Rattle.atomic_table.proofs.shared.Shared.TheSendSync.{the_sync as table_sync, the_send as table_send}
use Rattle.atomic_table.proofs.send_lease.SendLease.TheSendSync.{the_sync as memory_sync, the_send as memory_send}
use Rattle.lms_hss.proofs.Sent.{key_is_shared, key_is_sent}
use Rattle.lms_pool.specs.contracts.pool.IndexPool as pool
use Rattle.lms_pool.specs.contracts.seat.DrawSeat as draw_seat

pub pool_is_shared : IsSync pool.the_row
pool_is_shared = search (table_sync, memory_sync, key_is_shared, sendable, crosses) depth 20

pub pool_is_sent : IsSend pool.the_row
pool_is_sent = search (table_send, memory_send, key_is_sent, sendable, crosses) depth 20

pub seat_is_sent : IsSend draw_seat.the_row
unfolding entry part_of
seat_is_sent = search rules
