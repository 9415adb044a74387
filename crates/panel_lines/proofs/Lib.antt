mod TakeFacts
