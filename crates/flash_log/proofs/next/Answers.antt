use Rattle.std.proofs.Common.{arith, refl, true}
use Rattle.flash_log.proofs.Told.{begun_is, block_low, on_is, over_is, page_few, page_ranged, part_is, part_low, part_room}
use Rattle.flash_log.proofs.next.Goals as goal

pub overflow_add-c : goal.overflow_add-c
overflow_add-c c = omega (arith, block_low _ _ _ c.requires.0 _ c.requires.1)

pub overflow_add-begin : goal.overflow_add-begin
overflow_add-begin c = omega (arith, part_room _ _ _ c.requires.0 _ c.requires.1 c.if-c-flash.false, part_low _ _ _ c.requires.0 _ c.requires.1 c.if-c-flash.false)

pub slice_bounds-bytes-end : goal.slice_bounds-bytes-end
slice_bounds-bytes-end c = omega (arith, part_room _ _ _ c.requires.0 _ c.requires.1 c.if-c-flash.false)

pub returns-in-None : goal.returns-in-None
returns-in-None c = let h = over_is _ _ _ c.requires.0 _ c.requires.1 c.if-c-flash.true c.block_at.ensures c.in-None.is in record { value = h.0; ahead = h.1 }

pub returns-in-Some : goal.returns-in-Some
returns-in-Some c = let h = over_is _ _ _ c.requires.0 _ c.requires.1 c.if-c-flash.true c.block_at.ensures c.in-Some.is in record { value = h.0; ahead = h.1 }

pub message_at-requires : goal.message_at-requires
message_at-requires c = (page_ranged _ _ _ c.requires.0 _ c.requires.1 c.if-c-flash.false c.address_of-address.ensures (omega arith) (part_is _ _), (page_few _ _ _ c.requires.0 _ c.requires.1 c.if-c-flash.false).0, (page_few _ _ _ c.requires.0 _ c.requires.1 c.if-c-flash.false).1)

pub returns-in-Bad : goal.returns-in-Bad
returns-in-Bad c = let h = begun_is _ _ _ c.requires.0 _ c.requires.1 c.if-c-flash.false c.address_of-address.ensures (omega arith) (part_is _ _) c.page_start.ensures c.in-Bad.is refl in record { value = h.0; ahead = h.1 }

pub returns-in-Blank : goal.returns-in-Blank
returns-in-Blank c = let h = begun_is _ _ _ c.requires.0 _ c.requires.1 c.if-c-flash.false c.address_of-address.ensures (omega arith) (part_is _ _) c.page_start.ensures c.in-Blank.is (on_is _ true c.next_page.ensures refl) in record { value = h.0; ahead = h.1 }

pub returns-in-Written : goal.returns-in-Written
returns-in-Written c = let h = begun_is _ _ _ c.requires.0 _ c.requires.1 c.if-c-flash.false c.address_of-address.ensures (omega arith) (part_is _ _) c.page_start.ensures c.in-Written.is c.message_at.ensures in record { value = h.0; ahead = h.1 }
