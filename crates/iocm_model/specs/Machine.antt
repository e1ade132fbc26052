-- The machine as a configuration makes it: records, path lists, sight, masks, subchannel numbers,
-- views and their table.
pub mod Configuration
pub mod Mask
pub mod Naming
pub mod Numbering
pub mod PathList
pub mod Record
pub mod Sight
pub mod Table
pub mod View
